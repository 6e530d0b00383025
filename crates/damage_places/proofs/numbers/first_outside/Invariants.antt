use Rattle.image_tree.proofs.Lemmas.{◌≢◌, ℕ, ◌<◌, get_or, IsData}
use Rattle.damage_places.proofs.numbers.first_outside.Given as goal

abbrev pub invariant-loop-i : goal.invariant-loop-i
invariant-loop-i l = (k : ℕ) → k < l.i → get_or l.numbers k 0 ≢ 0 → IsData l.sizes (get_or l.numbers k 0)

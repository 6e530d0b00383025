use Rattle.image_tree.proofs.Lemmas.{◌≡◌, ◌≢◌, ℕ, ◌<◌, true, get_or, bit_of}
use Rattle.damage_places.proofs.numbers.first_unmarked.Given as goal

abbrev pub invariant-loop-i : goal.invariant-loop-i
invariant-loop-i l = (k : ℕ) → k < l.i → get_or l.numbers k 0 ≢ 0 → bit_of l.bitmap (get_or l.numbers k 0) ≡ true

use Rattle.image_tree.proofs.Lemmas.{◌≡◌, ◌≢◌, ℕ, ◌<◌, ◌≤◌, get_or}
use Rattle.image_tree.proofs.one_tree.are_named.Given as goal

abbrev pub invariant-loop-i : goal.invariant-loop-i
invariant-loop-i l = (k : ℕ) → 2 ≤ k → k < l.i → get_or l.ups k 0 ≢ 0 → (get_or l.further k 0 ≡ 1) × (get_or l.proper k 0 ≡ 1)

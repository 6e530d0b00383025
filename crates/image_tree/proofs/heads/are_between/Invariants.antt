use Rattle.image_tree.proofs.Lemmas.{ℕ, ◌<◌, ◌≤◌, get_or}
use Rattle.image_tree.proofs.heads.are_between.Given as goal

abbrev pub invariant-loop-b : goal.invariant-loop-b
invariant-loop-b l = (k : ℕ) → k < l.b-index → (l.low ≤ get_or l.numbers k 0) × (get_or l.numbers k 0 < l.high)

use Rattle.image_tree.proofs.Lemmas.{ℕ, ◌+◌, ◌<◌, DifferAt}
use Rattle.image_tree.proofs.names.neighbours_differ.Given as goal

abbrev pub invariant-loop-k : goal.invariant-loop-k
invariant-loop-k l = (j : ℕ) → j + 1 < l.k → DifferAt l.names j (j + 1)

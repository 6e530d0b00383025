use Rattle.plain_tree.proofs.Lemmas.{◌≢◌, ◌<◌, ℕ, None, tree_of}
use Rattle.plain_tree.proofs.tree.Tree.least_unused.Given as goal

abbrev pub invariant-loop-id : goal.invariant-loop-id
invariant-loop-id l = (j : ℕ) → j < l.id → (tree_of l.self).files j ≢ None

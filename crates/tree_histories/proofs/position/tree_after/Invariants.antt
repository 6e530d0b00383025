use Rattle.tree_histories.proofs.Lemmas.{take, Chain, tree_of}
use Rattle.tree_histories.proofs.position.tree_after.Given as goal

abbrev pub invariant-loop-entry : goal.invariant-loop-entry
invariant-loop-entry l = Chain l.version (tree_of l.base) (take l.entry-index l.list) (tree_of l.tree)

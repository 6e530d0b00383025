use Rattle.tree_histories.proofs.Lemmas.{NoneStands}
use Rattle.tree_histories.proofs.ends.Ends.due.Given as goal

abbrev pub invariant-loop-place : goal.invariant-loop-place
invariant-loop-place l = NoneStands l.self-inside.ends.items l.self-inside.order.items l.self-inside.from l.place

use Rattle.tree_histories.proofs.Lemmas.{HasEnds}
use Rattle.tree_histories.proofs.ends.in_order.Given as goal

abbrev pub invariant-loop-id : goal.invariant-loop-id
invariant-loop-id l = HasEnds l.ends l.id l.order.items

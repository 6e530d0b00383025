use Rattle.tree_histories.proofs.Lemmas.{◌≡◌, ◌-◌, length, set, None, IsOrdered}
use Rattle.tree_histories.proofs.ends.Ends.pass.Given as goal

abbrev pub invariant-loop-self : goal.invariant-loop-self
invariant-loop-self l = record {
  ends : l.self-inside.ends.items ≡ set l.fn.self l.id None;
  ordered : IsOrdered l.self-inside.ends.items l.self-inside.order.items l.self-inside.from;
}

abbrev pub decreases-loop-self : goal.decreases-loop-self
decreases-loop-self l = length l.self-inside.order.items - l.self-inside.from

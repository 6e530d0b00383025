use Rattle.tree_histories.proofs.Lemmas.{IsKept}
use Rattle.tree_histories.proofs.position.Position.step_on.Given as goal

abbrev pub invariant-loop-id : goal.invariant-loop-id
invariant-loop-id l = IsKept l.version l.base l.trace l.fn.self l.self

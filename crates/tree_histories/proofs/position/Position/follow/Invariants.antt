use Rattle.tree_histories.proofs.Lemmas.{IsAt, steps_left}
use Rattle.tree_histories.proofs.position.Position.follow.Given as goal

abbrev pub invariant-loop-due : goal.invariant-loop-due
invariant-loop-due l = IsAt l.version l.base l.trace l.self

abbrev pub decreases-loop-due : goal.decreases-loop-due
decreases-loop-due l = steps_left l.trace l.self

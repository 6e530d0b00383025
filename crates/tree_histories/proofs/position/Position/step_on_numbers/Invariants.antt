use Rattle.tree_histories.proofs.Lemmas.{IsKept}
use Rattle.tree_histories.proofs.position.Position.step_on_numbers.Given as goal

abbrev pub invariant-loop-number : goal.invariant-loop-number
invariant-loop-number l = IsKept l.version l.base l.trace l.fn.self l.self

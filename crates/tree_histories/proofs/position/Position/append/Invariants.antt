use Rattle.tree_histories.proofs.Lemmas.{IsAt}
use Rattle.tree_histories.proofs.position.Position.append.Given as goal

abbrev pub invariant-loop-hint : goal.invariant-loop-hint
invariant-loop-hint l = IsAt l.version l.base l.trace l.self

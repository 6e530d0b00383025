use Rattle.tree_histories.proofs.Lemmas.{Fallen}
use Rattle.tree_histories.proofs.kept.Kept.fall.Given as goal

abbrev pub invariant-loop-hart : goal.invariant-loop-hart
invariant-loop-hart l = Fallen l.before l.fn.self l.self l.hart

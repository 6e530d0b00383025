use Rattle.hart_runner.proofs.Vocabulary.{All, take, map, kept_view, IsListed}
use Rattle.hart_runner.proofs.kernel.first_strange.Given as goal

abbrev pub invariant-loop-i : goal.invariant-loop-i
invariant-loop-i g l = All (IsListed l.closed.stored) (take l.i (map kept_view l.kept))

use Rattle.hart_runner.proofs.Listed.{one_seat}
use Rattle.hart_runner.proofs.kernel.Kernel.close.Goals as goal

pub returns-in-Some-clause-strange : goal.returns-in-Some-clause-strange
returns-in-Some-clause-strange g c =
    one_seat c.end-closed.result.stored c.args.seats c.parted-shares.result.1 c.in-Some.hart c.in-Some.place c.parted-shares.ensures.kept c.in-Some.ensures.some

use Rattle.hart_runner.proofs.kernel.Kernel.open.Goals as goal

pub returns-clause-fresh : goal.returns-clause-fresh
returns-clause-fresh g c = c.seats_of.ensures.fresh c.in-Ok.ensures.nothing

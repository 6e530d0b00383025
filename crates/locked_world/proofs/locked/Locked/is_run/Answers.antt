use Rattle.locked_world.proofs.Lemmas.{subst, LockedRun, IsRun, ComesFromImage, device_of}
use Rattle.locked_world.proofs.locked.Locked.is_run.Goals as goal

pub returns-clause-run : goal.returns-clause-run
returns-clause-run g c = subst IsRun c.self.view_is c.self.invariant.run

pub returns-clause-calls : goal.returns-clause-calls
returns-clause-calls g c = subst (λ (z : LockedRun). ComesFromImage z.stored (device_of z.world)) c.self.view_is c.self.invariant.calls

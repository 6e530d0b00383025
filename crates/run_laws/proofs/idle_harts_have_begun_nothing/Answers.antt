use Rattle.run_laws.proofs.Idle.{idle_harts_have_begun_nothing}
use Rattle.run_laws.proofs.idle_harts_have_begun_nothing.Goals as goal

pub returns : goal.returns
returns g c = idle_harts_have_begun_nothing g.D.Device.contents g.D.Device.failures c.args.world.now

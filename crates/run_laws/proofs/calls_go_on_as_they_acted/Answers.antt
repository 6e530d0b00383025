use Rattle.run_laws.proofs.FaithfulRuns.{calls_go_on}
use Rattle.run_laws.proofs.calls_go_on_as_they_acted.Goals as goal

pub returns : goal.returns
returns g c = calls_go_on g.D.Device.contents g.D.Device.failures c.args.world.now

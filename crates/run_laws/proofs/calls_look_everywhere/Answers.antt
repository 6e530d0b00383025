use Rattle.run_laws.proofs.Seen.{look_everywhere}
use Rattle.run_laws.proofs.calls_look_everywhere.Goals as goal

pub returns : goal.returns
returns g c = look_everywhere g.D.Device.contents g.D.Device.failures c.args.world.now

use Rattle.run_laws.proofs.Answered.{found_none}
use Rattle.run_laws.proofs.calls_find_none_where_there_is_none.Goals as goal

pub returns : goal.returns
returns g c = found_none g.D.Device.contents g.D.Device.failures c.args.world.now

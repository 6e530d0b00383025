use Rattle.run_laws.proofs.Wants.{none_there}
use Rattle.run_laws.proofs.no_room_only_where_there_is_none.Goals as goal

pub returns : goal.returns
returns g c = none_there g.D.Device.contents g.D.Device.failures c.args.world.now

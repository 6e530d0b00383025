use Rattle.run_laws.proofs.RoomRuns.{room_told}
use Rattle.run_laws.proofs.room_is_told_by_answers.Goals as goal

pub returns : goal.returns
returns g c = room_told g.D.Device.contents g.D.Device.failures c.args.world.now

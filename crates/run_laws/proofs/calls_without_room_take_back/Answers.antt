use Rattle.run_laws.proofs.Standing.{take_back}
use Rattle.run_laws.proofs.Untold.{untold}
use Rattle.run_laws.proofs.Written.{writes_made, writes_short}
use Rattle.run_laws.proofs.calls_without_room_take_back.Goals as goal

pub returns-clause-take_back : goal.returns-clause-take_back
returns-clause-take_back g c = take_back g.D.Device.contents g.D.Device.failures c.args.world.now

pub returns-clause-told : goal.returns-clause-told
returns-clause-told g c = untold

pub returns-clause-written : goal.returns-clause-written
returns-clause-written g c = writes_made

pub returns-clause-short : goal.returns-clause-short
returns-clause-short g c = writes_short

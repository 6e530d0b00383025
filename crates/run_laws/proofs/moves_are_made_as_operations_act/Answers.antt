use Rattle.run_laws.proofs.PlacesAt.{steps_place_in_time}
use Rattle.run_laws.proofs.UnderWayRuns.{moves_made}
use Rattle.run_laws.proofs.moves_are_made_as_operations_act.Goals as goal

pub returns-clause-made : goal.returns-clause-made
returns-clause-made g c = moves_made g.D.Device.contents g.D.Device.failures c.args.world.now

pub returns-clause-in_time : goal.returns-clause-in_time
returns-clause-in_time g c = steps_place_in_time

use Rattle.run_laws.proofs.OneList.{runs_have_one_list}
use Rattle.run_laws.proofs.runs_have_one_list.Goals as goal

pub returns : goal.returns
returns g c = runs_have_one_list g.D.Device.contents g.D.Device.failures c.args.world.now

use Rattle.run_laws.proofs.Agreeing.{runs_on_one_image_agree}
use Rattle.run_laws.proofs.runs_on_one_image_agree.Goals as goal

pub returns : goal.returns
returns g c = runs_on_one_image_agree g.D.Device.contents g.D.Device.failures c.args.world.now c.args.other.now

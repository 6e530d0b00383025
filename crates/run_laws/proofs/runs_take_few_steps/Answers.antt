use Rattle.run_laws.proofs.Runs.{runs_few}
use Rattle.run_laws.proofs.runs_take_few_steps.Goals as goal

pub returns : goal.returns
returns g c = runs_few g.D.Device.contents g.D.Device.failures c.args.world.now

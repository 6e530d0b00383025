use Rattle.run_laws.proofs.Bounds.{calls_few}
use Rattle.run_laws.proofs.calls_take_few_steps.Goals as goal

pub returns : goal.returns
returns c = calls_few

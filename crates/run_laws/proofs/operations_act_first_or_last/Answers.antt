use Rattle.run_laws.proofs.ActsAt.{first_or_last}
use Rattle.run_laws.proofs.operations_act_first_or_last.Goals as goal

pub returns : goal.returns
returns c = first_or_last

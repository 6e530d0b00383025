use Rattle.tree_laws.proofs.Kept.{step_well}
use Rattle.tree_laws.proofs.steps_keep_well_formed.Goals as goal

pub returns : goal.returns
returns c = step_well

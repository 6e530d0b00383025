use Rattle.tree_laws.proofs.Actions.{told}
use Rattle.tree_laws.proofs.actions_are_told.Goals as goal

pub returns : goal.returns
returns c = told

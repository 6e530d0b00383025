use Rattle.tree_laws.proofs.Appended.{runs_append}
use Rattle.tree_laws.proofs.runs_go_on.Goals as goal

pub returns : goal.returns
returns c = λ version w mid w' es later r s. runs_append version w mid w' es later r s

use Rattle.tree_laws.proofs.Reached.{reached}
use Rattle.tree_laws.proofs.live_nodes_are_reached.Goals as goal

pub returns : goal.returns
returns c = λ t n k live held. reached t n k live held

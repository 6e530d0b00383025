use Rattle.tree_laws.proofs.Nodes.{well_gone}
use Rattle.tree_laws.proofs.dead_nodes_may_leave.Goals as goal

pub returns : goal.returns
returns c = well_gone

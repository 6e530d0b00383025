use Rattle.inodes_on_blocks.proofs.Lemmas.{node_any}
use Rattle.inodes_on_blocks.proofs.running.changed_nodes_may_be_any.Goals as goal

pub returns : goal.returns
returns c = λ disk nodes owner left changing joined i g v h is low bound. node_any disk nodes owner left changing joined h i g v is low bound

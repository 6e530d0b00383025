use Rattle.inodes_on_blocks.proofs.Lemmas.{dead_goes}
use Rattle.inodes_on_blocks.proofs.puts.dead_nodes_may_go.Goals as goal

pub returns : goal.returns
returns c = λ disk owner i v h none. dead_goes disk owner i v h none

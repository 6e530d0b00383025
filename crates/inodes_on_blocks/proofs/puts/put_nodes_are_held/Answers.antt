use Rattle.inodes_on_blocks.proofs.Lemmas.{node_held}
use Rattle.inodes_on_blocks.proofs.puts.put_nodes_are_held.Goals as goal

pub returns : goal.returns
returns c = λ disk new owner i d v front bound put h named. node_held disk new owner i d v front bound put h named

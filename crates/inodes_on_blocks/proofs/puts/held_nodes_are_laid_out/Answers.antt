use Rattle.inodes_on_blocks.proofs.Lemmas.{laid_before}
use Rattle.inodes_on_blocks.proofs.puts.held_nodes_are_laid_out.Goals as goal

pub returns : goal.returns
returns c = λ disk owner i v h. laid_before disk owner i v h

use Rattle.inodes_on_blocks.proofs.Lemmas.{count_laid}
use Rattle.inodes_on_blocks.proofs.puts.counts_can_change.Goals as goal

pub returns : goal.returns
returns c = λ disk owner i count d v h. count_laid disk owner i count d v h

use Rattle.inodes_on_blocks.proofs.Lemmas.{nothing_owed}
use Rattle.inodes_on_blocks.proofs.puts.no_block_is_owed.Goals as goal

pub returns : goal.returns
returns c = λ disk owner i numbers named. nothing_owed disk owner i numbers named

use Rattle.inodes_on_blocks.proofs.Lemmas.{taken}
use Rattle.inodes_on_blocks.proofs.puts.blocks_can_be_taken.Goals as goal

pub returns : goal.returns
returns c = λ disk new owner i b front marks some this clear put. taken disk new owner i b front some this marks clear put

use Rattle.inodes_on_blocks.proofs.Lemmas.{given_back}
use Rattle.inodes_on_blocks.proofs.puts.blocks_can_be_given_back.Goals as goal

pub returns : goal.returns
returns c = λ disk new owner i b front some this own put. given_back disk new owner i b front some this own put

use Rattle.inodes_on_blocks.proofs.Lemmas.{spare_put}
use Rattle.inodes_on_blocks.proofs.puts.spares_can_be_put.Goals as goal

pub returns : goal.returns
returns c = λ disk new owner i b d v h spare put. spare_put disk new owner i b d v h spare put

use Rattle.inodes_on_blocks.proofs.Lemmas.{number_named}
use Rattle.inodes_on_blocks.proofs.puts.numbers_can_be_put.Goals as goal

pub returns : goal.returns
returns c = λ disk new owner i place b d v h long low free spare put. number_named disk new owner i place b d v h long low free spare put

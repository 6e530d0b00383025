use Rattle.inodes_on_blocks.proofs.Lemmas.{direct_named}
use Rattle.inodes_on_blocks.proofs.puts.direct_numbers_can_be_set.Goals as goal

pub returns : goal.returns
returns c = λ disk owner i place b d v h low within free spare. direct_named disk owner i place b d v h low within free spare

use Rattle.inodes_on_blocks.proofs.Lemmas.{table_named}
use Rattle.inodes_on_blocks.proofs.puts.tables_can_be_set.Goals as goal

pub returns : goal.returns
returns c = λ disk owner i b d v h within free spare zeros. table_named disk owner i b d v h within free spare zeros

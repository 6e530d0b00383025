use Rattle.inodes_on_blocks.proofs.Lemmas.{inode_leaves}
use Rattle.inodes_on_blocks.proofs.puts.inode_puts_leave_others.Goals as goal

pub returns : goal.returns
returns c = λ disk new owner i d front bound put. inode_leaves disk new owner i d front bound put

use Rattle.inodes_on_blocks.proofs.Lemmas.{data_leaves}
use Rattle.inodes_on_blocks.proofs.puts.puts_leave_others.Goals as goal

pub returns : goal.returns
returns c = λ disk new owner i b front this own put. data_leaves disk new owner i b front this own put

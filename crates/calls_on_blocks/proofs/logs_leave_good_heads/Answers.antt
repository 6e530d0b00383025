use Rattle.calls_on_blocks.proofs.Heads as heads
use Rattle.calls_on_blocks.proofs.logs_leave_good_heads.Goals as goal

pub returns : goal.returns
returns c = heads.logs_leave_good_heads

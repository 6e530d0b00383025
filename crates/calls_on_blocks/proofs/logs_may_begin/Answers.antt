use Rattle.calls_on_blocks.proofs.Heads as heads
use Rattle.calls_on_blocks.proofs.logs_may_begin.Goals as goal

pub returns : goal.returns
returns c = heads.logs_may_begin

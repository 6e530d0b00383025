use Rattle.calls_on_blocks.proofs.History.{one_history}
use Rattle.calls_on_blocks.proofs.mounts_have_one_history.Goals as goal

pub returns : goal.returns
returns c = one_history

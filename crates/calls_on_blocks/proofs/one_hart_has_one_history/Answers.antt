use Rattle.calls_on_blocks.proofs.History.{one_hart}
use Rattle.calls_on_blocks.proofs.one_hart_has_one_history.Goals as goal

pub returns : goal.returns
returns c = one_hart

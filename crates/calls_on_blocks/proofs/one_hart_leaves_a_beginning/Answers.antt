use Rattle.calls_on_blocks.proofs.Beginnings.{one_hart_leaves_a_beginning}
use Rattle.calls_on_blocks.proofs.one_hart_leaves_a_beginning.Goals as goal

pub returns : goal.returns
returns c = one_hart_leaves_a_beginning

-- Each event of a run is one of moves on the tree, and those are explained.
use Rattle.inode_machine.proofs.Histories.{one_hart}
use Rattle.inode_machine.proofs.one_hart_has_one_history.Goals as goal

pub returns : goal.returns
returns c = one_hart

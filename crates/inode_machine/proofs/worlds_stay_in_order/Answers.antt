-- The invariant holds after every event.
use Rattle.inode_machine.proofs.Covered.{in_order}
use Rattle.inode_machine.proofs.worlds_stay_in_order.Goals as goal

pub returns : goal.returns
returns c = in_order

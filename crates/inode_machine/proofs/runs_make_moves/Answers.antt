use Rattle.inode_machine.proofs.Moving.{moving}
use Rattle.inode_machine.specs.Histories.{covered}
use Rattle.inode_machine.proofs.RunMoves.{run_moves}
use Rattle.inode_machine.proofs.runs_make_moves.Goals as goal

pub returns : goal.returns
returns c version base w before later e r few = run_moves version (covered version) (moving version) base w before later e r few

use Rattle.inode_machine.proofs.Moving.{moving}
use Rattle.inode_machine.specs.Histories.{covered}
use Rattle.inode_machine.proofs.Kept.{the_history}
use Rattle.inode_machine.proofs.runs_have_the_history.Goals as goal

pub returns : goal.returns
returns c version base w events r calm = the_history version (covered version) (moving version) base w events r calm

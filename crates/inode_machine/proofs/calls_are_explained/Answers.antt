-- Each call is right alone, so every run is explained.
use Rattle.inode_machine.proofs.Covered.{explained}
use Rattle.inode_machine.proofs.calls_are_explained.Goals as goal

pub returns : goal.returns
returns c = explained

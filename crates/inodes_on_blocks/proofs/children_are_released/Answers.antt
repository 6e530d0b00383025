use Rattle.inodes_on_blocks.proofs.Lemmas.{children_are_released}
use Rattle.inodes_on_blocks.proofs.children_are_released.Goals as goal

pub returns : goal.returns
returns c = children_are_released

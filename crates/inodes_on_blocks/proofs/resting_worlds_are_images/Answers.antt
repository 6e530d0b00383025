use Rattle.inodes_on_blocks.proofs.Lemmas.{resting_worlds_are_images}
use Rattle.inodes_on_blocks.proofs.resting_worlds_are_images.Goals as goal

pub returns : goal.returns
returns c = resting_worlds_are_images

use Rattle.inodes_on_blocks.proofs.Lemmas.{quiet_worlds_are_images}
use Rattle.inodes_on_blocks.proofs.quiet_worlds_are_images.Goals as goal

pub returns : goal.returns
returns c = quiet_worlds_are_images

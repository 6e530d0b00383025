use Rattle.inodes_on_blocks.proofs.Lemmas.{descriptors_are_given}
use Rattle.inodes_on_blocks.proofs.descriptors_are_given.Goals as goal

pub returns : goal.returns
returns c = descriptors_are_given

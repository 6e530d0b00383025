use Rattle.inodes_on_blocks.proofs.Lemmas.{descriptors_are_shut}
use Rattle.inodes_on_blocks.proofs.descriptors_are_shut.Goals as goal

pub returns : goal.returns
returns c = descriptors_are_shut

use Rattle.inodes_on_blocks.proofs.Lemmas.{descriptors_name_files}
use Rattle.inodes_on_blocks.proofs.descriptors_name_files.Goals as goal

pub returns : goal.returns
returns c = descriptors_name_files

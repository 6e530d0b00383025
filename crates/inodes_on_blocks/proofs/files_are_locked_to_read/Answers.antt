use Rattle.inodes_on_blocks.proofs.Lemmas.{files_are_locked_to_read}
use Rattle.inodes_on_blocks.proofs.files_are_locked_to_read.Goals as goal

pub returns : goal.returns
returns c = files_are_locked_to_read

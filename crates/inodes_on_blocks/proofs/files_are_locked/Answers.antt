use Rattle.inodes_on_blocks.proofs.Lemmas.{files_are_locked}
use Rattle.inodes_on_blocks.proofs.files_are_locked.Goals as goal

pub returns : goal.returns
returns c = files_are_locked

use Rattle.inodes_on_blocks.proofs.Lemmas.{blocks_are_taken as law}
use Rattle.inodes_on_blocks.proofs.recording.blocks_are_taken.Goals as goal

pub returns : goal.returns
returns c = law

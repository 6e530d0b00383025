use Rattle.inodes_on_blocks.proofs.Lemmas.{recorded_puts_keep as law}
use Rattle.inodes_on_blocks.proofs.recording.recorded_puts_keep.Goals as goal

pub returns : goal.returns
returns c = law

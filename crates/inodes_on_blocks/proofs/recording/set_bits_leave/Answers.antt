use Rattle.inodes_on_blocks.proofs.Lemmas.{set_bits_leave as law}
use Rattle.inodes_on_blocks.proofs.recording.set_bits_leave.Goals as goal

pub returns : goal.returns
returns c = law

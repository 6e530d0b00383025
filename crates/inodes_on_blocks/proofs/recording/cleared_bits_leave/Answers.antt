use Rattle.inodes_on_blocks.proofs.Lemmas.{cleared_bits_leave as law}
use Rattle.inodes_on_blocks.proofs.recording.cleared_bits_leave.Goals as goal

pub returns : goal.returns
returns c = law

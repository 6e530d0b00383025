use Rattle.inodes_on_blocks.proofs.Lemmas.{marks_are_bits as law}
use Rattle.inodes_on_blocks.proofs.recording.marks_are_bits.Goals as goal

pub returns : goal.returns
returns c = law

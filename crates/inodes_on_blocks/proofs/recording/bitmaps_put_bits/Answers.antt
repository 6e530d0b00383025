use Rattle.inodes_on_blocks.proofs.Lemmas.{law}
use Rattle.inodes_on_blocks.proofs.recording.bitmaps_put_bits.Goals as goal

pub returns : goal.returns
returns c = law

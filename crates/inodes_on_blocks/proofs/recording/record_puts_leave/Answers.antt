use Rattle.inodes_on_blocks.proofs.Lemmas.{record_puts_leave as law}
use Rattle.inodes_on_blocks.proofs.recording.record_puts_leave.Goals as goal

pub returns : goal.returns
returns c = law

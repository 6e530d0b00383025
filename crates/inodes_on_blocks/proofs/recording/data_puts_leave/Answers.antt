use Rattle.inodes_on_blocks.proofs.Lemmas.{data_puts_leave as law}
use Rattle.inodes_on_blocks.proofs.recording.data_puts_leave.Goals as goal

pub returns : goal.returns
returns c = law

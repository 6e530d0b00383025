use Rattle.calls_on_blocks.proofs.Told.{marks_of_mounts}
use Rattle.calls_on_blocks.proofs.marks_are_told.Goals as goal

pub returns : goal.returns
returns c = marks_of_mounts

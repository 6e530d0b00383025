use Rattle.inodes_on_blocks.proofs.Lemmas.{programs_stay_within}
use Rattle.inodes_on_blocks.proofs.spent.programs_stay_within.Goals as goal

pub returns : goal.returns
returns c = programs_stay_within

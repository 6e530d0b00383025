use Rattle.inodes_on_blocks.proofs.Lemmas.{recordings_stay_within}
use Rattle.inodes_on_blocks.proofs.spent.recordings_stay_within.Goals as goal

pub returns : goal.returns
returns c = recordings_stay_within

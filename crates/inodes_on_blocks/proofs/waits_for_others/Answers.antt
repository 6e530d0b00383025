use Rattle.inodes_on_blocks.proofs.Lemmas.{waits_for_others}
use Rattle.inodes_on_blocks.proofs.waits_for_others.Goals as goal

pub returns : goal.returns
returns c = waits_for_others

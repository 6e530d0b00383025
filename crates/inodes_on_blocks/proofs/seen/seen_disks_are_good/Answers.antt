use Rattle.inodes_on_blocks.proofs.Lemmas.{good_seen}
use Rattle.inodes_on_blocks.proofs.seen.seen_disks_are_good.Goals as goal

pub returns : goal.returns
returns c = λ sizes see n these. good_seen sizes see n these

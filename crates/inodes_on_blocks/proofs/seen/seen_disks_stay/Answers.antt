use Rattle.inodes_on_blocks.proofs.Lemmas.{seen_stays}
use Rattle.inodes_on_blocks.proofs.seen.seen_disks_stay.Goals as goal

pub returns : goal.returns
returns c = λ sizes see now n these alike. seen_stays sizes see now n these alike

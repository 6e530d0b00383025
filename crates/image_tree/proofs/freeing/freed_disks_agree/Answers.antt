use Rattle.image_tree.proofs.Lemmas.{freed_disks_agree}
use Rattle.image_tree.proofs.freeing.freed_disks_agree.Goals as goal

pub returns : goal.returns
returns c = freed_disks_agree

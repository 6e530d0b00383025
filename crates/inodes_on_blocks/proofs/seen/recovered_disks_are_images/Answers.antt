use Rattle.inodes_on_blocks.proofs.Lemmas.{recovered_image, image_seen}
use Rattle.inodes_on_blocks.proofs.seen.recovered_disks_are_images.Goals as goal

pub returns : goal.returns
returns c = λ sizes see disk these so. (recovered_image sizes see disk these so, image_seen sizes see disk these so)

use Rattle.inodes_on_blocks.proofs.Lemmas.{quiet_image_of, quiet_disk}
use Rattle.inodes_on_blocks.proofs.quiet_blocks_are_images.Goals as goal

pub returns : goal.returns
returns c = λ contents seats sizes members g t on well these none.
    let image = quiet_image_of contents seats sizes members g on t well these none in
    (image, quiet_disk contents seats sizes members g on image.well_formed)

use Rattle.inodes_on_blocks.proofs.Lemmas.{image_of}
use Rattle.inodes_on_blocks.proofs.held_trees_are_images.Goals as goal

pub returns : goal.returns
returns c = λ disk nodes owner t h well these. image_of disk nodes owner t h well these

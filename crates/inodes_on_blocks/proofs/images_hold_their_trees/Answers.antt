use Rattle.inodes_on_blocks.proofs.Lemmas.{image_holds, are_nodes}
use Rattle.inodes_on_blocks.proofs.images_hold_their_trees.Goals as goal

pub returns : goal.returns
returns c = λ disk whole well. (image_holds disk whole well, are_nodes disk)

use Rattle.inodes_on_blocks.proofs.Lemmas.{tree_well}
use Rattle.inodes_on_blocks.proofs.trees_of_images_are_well_formed.Goals as goal

pub returns : goal.returns
returns c = λ disk h. tree_well disk h

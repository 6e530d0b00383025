use Rattle.inodes_on_blocks.proofs.Lemmas.{mounts_show_their_trees}
use Rattle.inodes_on_blocks.proofs.mounts_show_their_trees.Goals as goal

pub returns : goal.returns
returns c = mounts_show_their_trees

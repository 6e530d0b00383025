use Rattle.inodes_on_blocks.proofs.Lemmas.{image_runs, image_tree_runs}
use Rattle.inodes_on_blocks.proofs.running.images_can_run.Goals as goal

pub returns : goal.returns
returns c = λ disk joined whole well. (image_runs disk joined whole well, image_tree_runs disk joined)

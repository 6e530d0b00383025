use Rattle.image_tree.proofs.Lemmas.{freed_nodes_leave_images}
use Rattle.image_tree.proofs.freeing.freed_nodes_leave_images.Goals as goal

pub returns : goal.returns
returns c = freed_nodes_leave_images

use Rattle.mkfs.proofs.Lemmas.{◌<◌, length, arith, length-map, nodes_with, root_content, file_node, Fits, inode-there, are-nodes, fits}
use Rattle.mkfs.proofs.made.made_inodes.Goals as goal

pub returns : goal.returns
returns c =
    λ v size ninodes i names contents d e can l.
    let f : Fits size ninodes (nodes_with (root_content v names) contents) = fits v size ninodes names contents e can in
    let within : i < length (nodes_with (root_content v names) contents) = omega (arith, l, length-map contents file_node) in
    inode-there v size ninodes (nodes_with (root_content v names) contents) i d f (are-nodes (root_content v names) contents f.contents) within

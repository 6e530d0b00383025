use Rattle.mkfs.proofs.Lemmas.{◌<◌, length, arith, length-map, nodes_with, root_content, file_node, bitmap-there, node-there, fits}
use Rattle.mkfs.proofs.made.made_blocks.Goals as goal

pub returns-clause-bitmap : goal.returns-clause-bitmap
returns-clause-bitmap c =
    λ v size ninodes names contents e can. bitmap-there v size ninodes (nodes_with (root_content v names) contents) (fits v size ninodes names contents e can)

pub returns-clause-nodes : goal.returns-clause-nodes
returns-clause-nodes c =
    λ v size ninodes i names contents d e can l.
    let within : i < length (nodes_with (root_content v names) contents) = omega (arith, l, length-map contents file_node) in
    node-there v size ninodes (nodes_with (root_content v names) contents) i d (fits v size ninodes names contents e can) within

use Rattle.mkfs.proofs.Lemmas.{nodes_with, root_content, fits, length-disk, sizes-there, log-empty, recovered-there}
use Rattle.mkfs.proofs.made.made_front.Goals as goal

pub returns-clause-size : goal.returns-clause-size
returns-clause-size c = λ v size ninodes names contents e can. length-disk v size ninodes (nodes_with (root_content v names) contents) (fits v size ninodes names contents e can)

pub returns-clause-superblock : goal.returns-clause-superblock
returns-clause-superblock c =
    λ v size ninodes names contents e can.
    sizes-there v size ninodes (nodes_with (root_content v names) contents) can.0.0.0.0.few_inodes (fits v size ninodes names contents e can)

pub returns-clause-log : goal.returns-clause-log
returns-clause-log c =
    λ v size ninodes names contents e can.
    log-empty v size ninodes (nodes_with (root_content v names) contents) can.0.0.0.0.few_inodes (fits v size ninodes names contents e can)

pub returns-clause-recovered : goal.returns-clause-recovered
returns-clause-recovered c =
    λ v size ninodes b names contents e can.
    recovered-there v size ninodes (nodes_with (root_content v names) contents) b can.0.0.0.0.few_inodes (fits v size ninodes names contents e can)

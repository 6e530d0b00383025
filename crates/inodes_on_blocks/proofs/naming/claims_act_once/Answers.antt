use Rattle.inodes_on_blocks.proofs.Lemmas.{claims_within}
use Rattle.inodes_on_blocks.proofs.naming.claims_act_once.Goals as goal

pub returns : goal.returns
returns c = λ sizes inode_type made inodes. claims_within sizes inode_type made inodes

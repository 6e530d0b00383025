use Rattle.inodes_on_blocks.proofs.Lemmas.{enters_within}
use Rattle.inodes_on_blocks.proofs.naming.names_act_once.Goals as goal

pub returns : goal.returns
returns c = λ sizes d e n. enters_within sizes d e n

use Rattle.inodes_on_blocks.proofs.Lemmas.{fills_within}
use Rattle.inodes_on_blocks.proofs.naming.first_names_act_once.Goals as goal

pub returns : goal.returns
returns c = λ sizes n d. fills_within sizes n d

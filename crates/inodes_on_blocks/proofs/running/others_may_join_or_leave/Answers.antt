use Rattle.inodes_on_blocks.proofs.Lemmas.{joins}
use Rattle.inodes_on_blocks.proofs.running.others_may_join_or_leave.Goals as goal

pub returns : goal.returns
returns c = λ disk nodes owner left changing joined joined' h keep. joins disk nodes owner left changing joined h joined' keep

use Rattle.inodes_on_blocks.proofs.Lemmas.{ends}
use Rattle.inodes_on_blocks.proofs.running.changes_may_end.Goals as goal

pub returns : goal.returns
returns c = λ disk nodes owner left changing joined i h held. ends disk nodes owner left changing joined h i held

use Rattle.inodes_on_blocks.proofs.Lemmas.{change_ends}
use Rattle.inodes_on_blocks.proofs.changes_may_end.Goals as goal

pub returns : goal.returns
returns c = λ contents seats sizes members g i h v on is low bound held. change_ends contents seats sizes members g on i h v is low bound held

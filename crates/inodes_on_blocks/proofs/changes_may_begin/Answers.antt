use Rattle.inodes_on_blocks.proofs.Lemmas.{change_begins}
use Rattle.inodes_on_blocks.proofs.changes_may_begin.Goals as goal

pub returns : goal.returns
returns c = λ contents seats sizes members g i h on none joined. change_begins contents seats sizes members g on i h none joined

use Rattle.inodes_on_blocks.proofs.Lemmas.{begins}
use Rattle.inodes_on_blocks.proofs.running.changes_may_begin.Goals as goal

pub returns : goal.returns
returns c = λ disk nodes owner left changing joined i g h none in_it. begins disk nodes owner left changing joined h i g none in_it

use Rattle.inodes_on_blocks.proofs.Lemmas.{programs_spend}
use Rattle.inodes_on_blocks.proofs.spent.programs_spend.Goals as goal

pub returns : goal.returns
returns c = programs_spend

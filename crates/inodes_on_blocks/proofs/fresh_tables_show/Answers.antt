use Rattle.inodes_on_blocks.proofs.Lemmas.{fresh_tables_show}
use Rattle.inodes_on_blocks.proofs.fresh_tables_show.Goals as goal

pub returns : goal.returns
returns c = fresh_tables_show

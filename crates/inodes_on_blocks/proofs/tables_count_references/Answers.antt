use Rattle.inodes_on_blocks.proofs.Lemmas.{tables_count_references}
use Rattle.inodes_on_blocks.proofs.tables_count_references.Goals as goal

pub returns : goal.returns
returns c = tables_count_references

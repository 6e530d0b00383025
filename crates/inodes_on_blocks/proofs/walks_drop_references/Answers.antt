use Rattle.inodes_on_blocks.proofs.Lemmas.{walks_drop_references}
use Rattle.inodes_on_blocks.proofs.walks_drop_references.Goals as goal

pub returns : goal.returns
returns c = walks_drop_references

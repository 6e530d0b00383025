use Rattle.inodes_on_blocks.proofs.Lemmas.{references_are_dropped}
use Rattle.inodes_on_blocks.proofs.references_are_dropped.Goals as goal

pub returns : goal.returns
returns c = references_are_dropped

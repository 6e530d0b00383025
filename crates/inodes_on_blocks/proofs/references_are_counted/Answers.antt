use Rattle.inodes_on_blocks.proofs.Lemmas.{references_are_counted}
use Rattle.inodes_on_blocks.proofs.references_are_counted.Goals as goal

pub returns : goal.returns
returns c = references_are_counted

use Rattle.inodes_on_blocks.proofs.Lemmas.{starts_are_counted}
use Rattle.inodes_on_blocks.proofs.starts_are_counted.Goals as goal

pub returns : goal.returns
returns c = starts_are_counted

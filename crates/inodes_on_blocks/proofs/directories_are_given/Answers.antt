use Rattle.inodes_on_blocks.proofs.Lemmas.{directories_are_given}
use Rattle.inodes_on_blocks.proofs.directories_are_given.Goals as goal

pub returns : goal.returns
returns c = directories_are_given

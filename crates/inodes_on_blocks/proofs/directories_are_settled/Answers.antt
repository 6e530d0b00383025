use Rattle.inodes_on_blocks.proofs.Lemmas.{directories_are_settled}
use Rattle.inodes_on_blocks.proofs.directories_are_settled.Goals as goal

pub returns : goal.returns
returns c = directories_are_settled

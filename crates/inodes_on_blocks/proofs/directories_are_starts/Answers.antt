use Rattle.inodes_on_blocks.proofs.Lemmas.{directories_are_starts}
use Rattle.inodes_on_blocks.proofs.directories_are_starts.Goals as goal

pub returns : goal.returns
returns c = directories_are_starts

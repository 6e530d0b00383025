use Rattle.inodes_on_blocks.proofs.Lemmas.{offsets_are_moved}
use Rattle.inodes_on_blocks.proofs.offsets_are_moved.Goals as goal

pub returns : goal.returns
returns c = offsets_are_moved

use Rattle.inodes_on_blocks.proofs.Lemmas.{locks_are_taken}
use Rattle.inodes_on_blocks.proofs.locks_are_taken.Goals as goal

pub returns : goal.returns
returns c = locks_are_taken

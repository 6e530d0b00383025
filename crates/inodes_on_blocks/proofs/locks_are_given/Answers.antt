use Rattle.inodes_on_blocks.proofs.Lemmas.{locks_are_given}
use Rattle.inodes_on_blocks.proofs.locks_are_given.Goals as goal

pub returns : goal.returns
returns c = locks_are_given

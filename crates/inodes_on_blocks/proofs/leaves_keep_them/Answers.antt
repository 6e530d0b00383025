use Rattle.inodes_on_blocks.proofs.Lemmas.{leave_keeps}
use Rattle.inodes_on_blocks.proofs.leaves_keep_them.Goals as goal

pub returns : goal.returns
returns c = λ contents seats sizes members g h on free. leave_keeps contents seats sizes members g on h free

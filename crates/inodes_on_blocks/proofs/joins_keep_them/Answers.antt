use Rattle.inodes_on_blocks.proofs.Lemmas.{join_keeps}
use Rattle.inodes_on_blocks.proofs.joins_keep_them.Goals as goal

pub returns : goal.returns
returns c = λ contents seats sizes members g h k on. join_keeps contents seats sizes members g on h k

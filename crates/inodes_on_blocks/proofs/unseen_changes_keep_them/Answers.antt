use Rattle.inodes_on_blocks.proofs.Lemmas.{unseen_keeps}
use Rattle.inodes_on_blocks.proofs.unseen_changes_keep_them.Goals as goal

pub returns : goal.returns
returns c = λ contents after seats now sizes members g on long alike. unseen_keeps contents seats sizes members g on after now long alike

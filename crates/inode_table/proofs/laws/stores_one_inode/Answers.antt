use Rattle.inode_table.proofs.Lemmas.{stores_one}
use Rattle.inode_table.proofs.laws.stores_one_inode.Goals as goal

pub returns : goal.returns
returns c = stores_one

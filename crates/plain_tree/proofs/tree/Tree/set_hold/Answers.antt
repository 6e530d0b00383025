use Rattle.plain_tree.proofs.Lemmas.{tree_of, hold_set}
use Rattle.plain_tree.proofs.tree.Tree.set_hold.Goals as goal

pub returns : goal.returns
returns c = hold_set c.args.self.now (tree_of c.set_hart.new.self) c.args.hart c.args.hold c.hart-value.result c.hart-value.ensures c.set_hart.ensures

use Rattle.plain_tree.proofs.Lemmas.{tree_of, inherited}
use Rattle.plain_tree.proofs.tree.Tree.inherit.Goals as goal

pub returns : goal.returns
returns c = inherited c.args.self.now (tree_of c.set_hart.new.self) c.args.hart c.args.child c.hart-value.result c.hold-value.result c.hart-value.ensures c.hold-value.ensures c.set_hart.ensures

use Rattle.plain_tree.proofs.Lemmas.{refl, tree_of, raised, changed}
use Rattle.plain_tree.proofs.tree.Tree.raise.Goals as goal

pub returns : goal.returns
returns c = changed (tree_of c.args.self.now) (tree_of c.take_node-count.new.self) (tree_of c.set_node.new.self) c.args.number raised c.take_node-count.result (raised c.take_node-count.result) c.take_node-count.ensures.rest c.set_node.ensures.tree c.take_node-count.ensures.node refl

use Rattle.plain_tree.proofs.Lemmas.{ap, ℕ, tree_of, lowered, changed}
use Rattle.plain_tree.proofs.tree.Tree.lower.Goals as goal

pub returns : goal.returns
returns c = changed (tree_of c.args.self.now) (tree_of c.take_node-count.new.self) (tree_of c.set_node.new.self) c.args.number lowered c.take_node-count.result (record c.take_node-count.result { count = c.saturating_sub.result }) c.take_node-count.ensures.rest c.set_node.ensures.tree c.take_node-count.ensures.node (ap (λ (k : ℕ). record c.take_node-count.result { count = k }) c.saturating_sub.ensures)

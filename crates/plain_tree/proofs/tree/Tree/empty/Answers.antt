use Rattle.plain_tree.proofs.Lemmas.{ap, NodeKind, tree_of, emptied, changed}
use Rattle.plain_tree.proofs.tree.Tree.empty.Goals as goal

pub returns : goal.returns
returns c = changed (tree_of c.args.self.now) (tree_of c.take_node-count.new.self) (tree_of c.set_node.new.self) c.args.number (λ v. record v { kind = emptied v.kind }) c.take_node-count.result (record c.take_node-count.result { kind = c.without_bytes-kind.result }) c.take_node-count.ensures.rest c.set_node.ensures.tree c.take_node-count.ensures.node (ap (λ (k : NodeKind). record c.take_node-count.result { kind = k }) c.without_bytes-kind.ensures)

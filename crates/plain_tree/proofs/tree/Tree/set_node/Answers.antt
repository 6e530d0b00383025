use Rattle.plain_tree.proofs.Lemmas.{Some, nodes_set}
use Rattle.plain_tree.proofs.tree.Tree.set_node.Goals as goal

pub returns-clause-tree : goal.returns-clause-tree
returns-clause-tree c = rw (← c.self.view_is) (nodes_set (record { ninodes = c.self.inside.ninodes; nodes = c.self.inside.nodes.items; files = c.self.inside.files.items; harts = c.self.inside.harts }) c.args.number (Some c.args.node) (rw (← c.self.view_is) at c.requires))

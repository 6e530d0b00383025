use Rattle.plain_tree.proofs.Lemmas.{None, nodes_set}
use Rattle.plain_tree.proofs.tree.Tree.take_node.Goals as goal

pub returns-clause-rest : goal.returns-clause-rest
returns-clause-rest c = rw (← c.self.view_is, c.replace.ensures.after) (nodes_set (record { ninodes = c.self.inside.ninodes; nodes = c.self.inside.nodes.items; files = c.self.inside.files.items; harts = c.self.inside.harts }) c.args.number None (rw (← c.self.view_is) at c.requires))

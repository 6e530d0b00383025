use Rattle.plain_tree.proofs.tree.Tree.open_found.Goals as goal

pub returns-in-Some : goal.returns-in-Some
returns-in-Some c = rw c.in-Some.is c.open_node.ensures

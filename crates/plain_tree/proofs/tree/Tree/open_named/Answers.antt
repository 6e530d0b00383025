use Rattle.plain_tree.proofs.tree.Tree.open_named.Goals as goal

pub returns-in-Some-look : goal.returns-in-Some-look
returns-in-Some-look c = rw (c.in-Some.is, ← c.in-Some-look.ensures) c.open_node.ensures

pub returns-in-None : goal.returns-in-None
returns-in-None c = rw (c.in-Some.is, ← c.in-None.ensures) c.create.ensures

use Rattle.plain_tree.proofs.Lemmas.{nodes_grown}
use Rattle.plain_tree.proofs.tree.Tree.reach.Goals as goal

pub returns-in_ok-push_absent-clause-tree : goal.returns-in_ok-push_absent-clause-tree
returns-in_ok-push_absent-clause-tree c =
    rw (← c.self.view_is) (nodes_grown (record { ninodes = c.self.inside.ninodes; nodes = c.self.inside.nodes.items; files = c.self.inside.files.items; harts = c.self.inside.harts }) c.push_absent.new.places.items _ c.in_ok-push_absent.ensures)

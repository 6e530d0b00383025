use Rattle.plain_tree.proofs.Lemmas.{tree_of, few_still, mkdir_few}
use Rattle.plain_tree.proofs.tree.Tree.mkdir.Goals as goal

pub raise-requires-clause-few : goal.raise-requires-clause-few
raise-requires-clause-few c =
    few_still (tree_of c.args.self.now) (tree_of c.add_node.new.self) c.in-Some.directory c.args.number c.from.result _ c.in_ok-node.node c.in_ok-add_node.ensures.tree (rw c.in-Some.is at c.requires.live) c.requires.new.unused c.from.ensures
    (mkdir_few (tree_of c.args.self.now) c.in-Some.directory c.args.name.now (rw c.in-Some.is at c.requires.none))

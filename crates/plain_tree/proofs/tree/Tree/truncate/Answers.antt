use Rattle.plain_tree.proofs.Lemmas.{tree_of, emptied_far}
use Rattle.plain_tree.proofs.tree.Tree.truncate.Goals as goal

pub returns : goal.returns
returns c = emptied_far (tree_of c.args.self.now) (tree_of c.reach.new.self) (tree_of c.empty.new.self) c.from-number.result c.in-Some.file _ c.in_ok-reach.ensures.tree c.empty.ensures c.from-number.ensures c.in-Some.ensures

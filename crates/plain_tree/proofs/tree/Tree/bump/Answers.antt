use Rattle.plain_tree.proofs.Lemmas.{tree_of, few_far, raised_far}
use Rattle.plain_tree.proofs.tree.Tree.bump.Goals as goal

pub raise-requires-clause-few : goal.raise-requires-clause-few
raise-requires-clause-few c = few_far (tree_of c.args.self.now) (tree_of c.reach.new.self) c.from-number.result c.in-Some.hold _ c.in_ok-reach.ensures.tree c.from-number.ensures c.in-Some.ensures c.requires.none

pub returns : goal.returns
returns c = raised_far (tree_of c.args.self.now) (tree_of c.reach.new.self) (tree_of c.raise.new.self) (tree_of c.set_hold-2.new.self) c.args.hart c.from-number.result c.in-Some.hold _ c.in_ok-reach.ensures.tree c.raise.ensures c.set_hold-2.ensures c.from-number.ensures c.in-Some.ensures

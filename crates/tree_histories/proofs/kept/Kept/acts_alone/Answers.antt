use Rattle.tree_histories.proofs.Lemmas.{only_told}
use Rattle.tree_histories.proofs.kept.Kept.acts_alone.Goals as goal

pub returns-clause-only : goal.returns-clause-only
returns-clause-only c =
    only_told c.args.self.now _ c.set_walk.new.self c.deed_of.new.self c.args.hart c.apply-answer.new.self c.deed_of.result c.self.view_is c.set_walk.ensures c.deed_of.ensures.full

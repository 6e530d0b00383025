use Rattle.tree_histories.proofs.Lemmas.{told_quit}
use Rattle.tree_histories.proofs.kept.Kept.quits.Goals as goal

pub returns-clause-tells : goal.returns-clause-tells
returns-clause-tells c =
    told_quit c.args.self.now c.set_walk.new.self c.args.hart c.in-Some.standing.now c.in_ok-action.action c.failed.result c.in-Some.ensures.call c.in_ok-action.ensures c.failed.ensures c.set_walk.ensures

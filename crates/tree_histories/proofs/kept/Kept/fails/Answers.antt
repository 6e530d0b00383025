use Rattle.tree_histories.proofs.Lemmas.{sym, ◌∙◌, walk_fails}
use Rattle.tree_histories.proofs.kept.Kept.fails.Goals as goal

pub returns : goal.returns
returns c d fails =
    walk_fails c.write.result c.args.self.now c.write.new.self c.args.hart c.in-Some.standing.now c.in-Some-walk.walk c.in_ok-action.action c.failed.result c.in-Some.ensures.call (sym c.walk.ensures ∙ c.in-Some-walk.is) c.in_ok-action.ensures c.failed.ensures c.write.ensures d fails

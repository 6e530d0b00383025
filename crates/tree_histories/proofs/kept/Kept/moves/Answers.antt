use Rattle.tree_histories.proofs.Lemmas.{moves_on_so}
use Rattle.tree_histories.proofs.kept.Kept.moves.Goals as goal

pub returns : goal.returns
returns c =
    moves_on_so c.fall.result c.args.self.now c.told.new.self c.tell.new.self c.fall.new.self c.args.hart c.args.mark c.in_ok-told.told c.is_lost-was_lost.result c.lost-before.result c.lost-before.ensures c.in_ok-tell.ensures.told c.tell.ensures.harts
    c.in_ok-told.ensures.only c.in_ok-told.ensures.tells c.in_ok-told.ensures.stays c.is_lost-was_lost.ensures c.fall.ensures.stage c.fall.ensures.book c.fall.ensures.none c.fall.ensures.rest

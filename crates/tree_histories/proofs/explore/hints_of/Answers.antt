use Rattle.tree_histories.proofs.Lemmas.{sym, ◌∙◌, hints_next, hints_none}
use Rattle.tree_histories.proofs.explore.hints_of.Goals as goal

pub loop-place-init : goal.loop-place-init
loop-place-init c = c.new-hints.ensures.items ∙ sym hints_none

pub loop-place-preserved : goal.loop-place-preserved
loop-place-preserved c =
    c.in_ok-push.ensures.items
    ∙ hints_next c.args.list.now c.loop-place.place c.index-list-place.result c.stand_in.result c.loop-place.hints.items c.loop-place-test.true c.index-list-place.is c.stand_in.ensures c.loop-place.invariant

use Rattle.tree_histories.proofs.Lemmas.{list_explains}
use Rattle.tree_histories.proofs.replay.replays.Goals as goal

pub loop-entry-init : goal.loop-entry-init
loop-entry-init c = record { at = c.in_ok-position.ensures.at c.args.version; list = c.in_ok-position.ensures.none }

pub returns : goal.returns
returns c ok =
    list_explains c.args.version c.args.base.now c.args.trace.now c.loop-entry.position c.args.list.now c.loop-entry.entry-index (record { at = c.loop-entry.invariant.at; through = c.in-None.ensures }) c.loop-entry.invariant.list c.loop-entry-test.false

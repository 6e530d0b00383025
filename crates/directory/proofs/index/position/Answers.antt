use Rattle.directory.proofs.Lemmas.{without_ends, without_goes, without_stops}
use Rattle.directory.proofs.index.position.Goals as goal

pub returns-then-slot-place : goal.returns-then-slot-place
returns-then-slot-place c = (
  c.loop-at-test.true,
  without_stops c.args.slots.now c.loop-at.at c.args.place c.loop-at.invariant c.loop-at-test.true c.if-slot-place.true,
)

pub loop-at-preserved : goal.loop-at-preserved
loop-at-preserved c = without_goes c.args.slots.now c.loop-at.at c.args.place c.loop-at.invariant c.loop-at-test.true c.if-slot-place.false

pub returns : goal.returns
returns c = without_ends c.args.slots.now c.loop-at.at c.args.place c.loop-at.invariant c.loop-at-test.false

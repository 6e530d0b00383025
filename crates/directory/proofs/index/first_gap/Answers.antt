use Rattle.directory.proofs.Lemmas.{sym, ◌∙◌, ◌≡◌, arith, length, gap_ends, gap_goes, gap_stops}
use Rattle.directory.proofs.index.first_gap.Goals as goal

pub returns-then-slot-at-clause-gap : goal.returns-then-slot-at-clause-gap
returns-then-slot-at-clause-gap c = sym (c.loop-at.invariant ∙ gap_stops c.args.slots.now c.loop-at.at c.loop-at-test.true c.if-slot-at.true)

pub loop-at-preserved : goal.loop-at-preserved
loop-at-preserved c = c.loop-at.invariant ∙ gap_goes c.args.slots.now c.loop-at.at c.loop-at-test.true c.if-slot-at.false

pub returns-clause-gap : goal.returns-clause-gap
returns-clause-gap c =
    let end : length c.args.slots.now ≡ c.loop-at.at = omega arith in
    end ∙ sym (c.loop-at.invariant ∙ gap_ends c.args.slots.now c.loop-at.at c.loop-at-test.false)

use Rattle.plain_tree.proofs.Lemmas.{falls, rises_on, rises_end}
use Rattle.plain_tree.proofs.belongs.rises.Goals as goal

pub returns-then-entry-lowest : goal.returns-then-entry-lowest
returns-then-entry-lowest c = falls c.args.list.now c.loop-entry.entry-index c.loop-entry.lowest c.entry-item.result c.loop-entry-test.true c.entry-item.is c.if-entry-lowest.true c.loop-entry.invariant

pub loop-entry-preserved : goal.loop-entry-preserved
loop-entry-preserved c = rises_on c.args.list.now c.loop-entry.entry-index c.loop-entry.lowest c.entry-item.result c.loop-entry-test.true c.entry-item.is c.if-entry-lowest.false c.loop-entry.invariant

pub returns : goal.returns
returns c = rises_end c.args.list.now c.loop-entry.entry-index c.loop-entry.lowest c.loop-entry-test.false c.loop-entry.invariant

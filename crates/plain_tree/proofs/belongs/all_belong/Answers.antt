use Rattle.plain_tree.proofs.Lemmas.{stray, belong_on, belong_end}
use Rattle.plain_tree.proofs.belongs.all_belong.Goals as goal

pub returns-then-not-belongs : goal.returns-then-not-belongs
returns-then-not-belongs c = stray c.args.trace.now c.args.list.now c.loop-entry.entry-index c.entry-item.result c.belongs.result c.loop-entry-test.true c.entry-item.is c.if-not-belongs.true c.belongs.ensures c.loop-entry.invariant

pub loop-entry-preserved : goal.loop-entry-preserved
loop-entry-preserved c = belong_on c.args.trace.now c.args.list.now c.loop-entry.entry-index c.entry-item.result c.belongs.result c.loop-entry-test.true c.entry-item.is c.if-not-belongs.false c.belongs.ensures c.loop-entry.invariant

pub returns : goal.returns
returns c = belong_end c.args.trace.now c.args.list.now c.loop-entry.entry-index c.loop-entry-test.false c.loop-entry.invariant

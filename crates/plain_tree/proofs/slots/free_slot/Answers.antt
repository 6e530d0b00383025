use Rattle.plain_tree.proofs.Lemmas.{free_next, free_found, free_end}
use Rattle.plain_tree.proofs.slots.free_slot.Goals as goal

pub returns-in-None : goal.returns-in-None
returns-in-None c = free_found c.args.slots.now c.loop-i.i c.index-slots-i.result c.loop-i-test.true c.index-slots-i.is c.in-None.is c.loop-i.invariant

pub loop-i-preserved : goal.loop-i-preserved
loop-i-preserved c = free_next c.args.slots.now c.loop-i.i c.index-slots-i.result c.in-Some.field-0 c.loop-i-test.true c.index-slots-i.is c.in-Some.is c.loop-i.invariant

pub returns : goal.returns
returns c = free_end c.args.slots.now c.loop-i.i c.loop-i-test.false c.loop-i.invariant

use Rattle.plain_tree.proofs.Lemmas.{none_next}
use Rattle.plain_tree.proofs.tree.entry_of.Goals as goal

pub loop-i-preserved : goal.loop-i-preserved
loop-i-preserved c = none_next c.args.files.now c.loop-i.i _ c.args.id c.loop-i-test.true c.loop-i.invariant c.if-entry-id.false

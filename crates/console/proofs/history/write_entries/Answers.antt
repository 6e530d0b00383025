use Rattle.console.proofs.Lemmas.{entries_end, entries_more}
use Rattle.console.proofs.history.write_entries.Goals as goal

pub loop-entry-preserved : goal.loop-entry-preserved
loop-entry-preserved g c = λ end rest. c.loop-entry.invariant end (entries_more _ _ end c.args.entries.now c.loop-entry.entry-index c.entry-item.result c.loop-entry-test.true c.entry-item.is c.in_ok-write_entry.ensures rest)

pub returns : goal.returns
returns g c = c.loop-entry.invariant _ (entries_end _ c.args.entries.now c.loop-entry.entry-index c.loop-entry-test.false)

use Rattle.console.proofs.Lemmas.{row_at, rows_over}
use Rattle.console.proofs.events.write_rows.Goals as goal

pub loop-note-preserved : goal.loop-note-preserved
loop-note-preserved g c = λ end rest. c.loop-note.invariant end (row_at _ _ end c.args.rows.now c.loop-note.note-index c.loop-note-test.true c.in_ok-write_row.ensures rest)

pub returns : goal.returns
returns g c = c.loop-note.invariant _ (rows_over _ c.args.rows.now c.loop-note.note-index c.loop-note-test.false)

use Rattle.console.proofs.Lemmas.{ℕ, List, Option, drop, Appends, timeline_rows}
use Rattle.console.proofs.events.write_rows.Given as goal

-- whatever the lines of the notes that are left lead to is what all lines lead to
abbrev pub invariant-loop-note : goal.invariant-loop-note
invariant-loop-note g l =
    (end : Option (List ℕ)) → Appends (g.W.Write.contents l.out) end (timeline_rows (drop l.note-index l.rows)) → Appends (g.W.Write.contents l.fn.out) end (timeline_rows l.rows)

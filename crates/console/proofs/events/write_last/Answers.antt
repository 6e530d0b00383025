use Rattle.console.proofs.Lemmas.{last_end, last_more}
use Rattle.console.proofs.events.write_last.Goals as goal

pub loop-note-preserved : goal.loop-note-preserved
loop-note-preserved g c = λ end rest. c.loop-note.invariant end (last_more _ _ end c.loop-note.note-iterator c.next.new.self c.in-Some.note.now c.in-Some.ensures.steps c.in_ok-write_event.ensures rest)

pub returns : goal.returns
returns g c = c.loop-note.invariant _ (last_end _ c.loop-note.note-iterator c.in-None.ensures.steps.0)

use Rattle.console.proofs.Lemmas.{ℕ, List, Option, Appends, last_text}
use Rattle.console.proofs.events.write_last.Given as goal

abbrev pub invariant-loop-note : goal.invariant-loop-note
invariant-loop-note g l =
    (end : Option (List ℕ)) → Appends (g.W.Write.contents l.out) end (last_text l.note-iterator) → Appends (g.W.Write.contents l.fn.out) end (last_text l.notes.tail.events)

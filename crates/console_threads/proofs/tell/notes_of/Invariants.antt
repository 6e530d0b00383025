use Rattle.console_threads.proofs.Lemmas.{◌≡◌, drop, no_notes, noted_in}
use Rattle.console_threads.proofs.tell.notes_of.Given as goal

abbrev pub invariant-loop-i : goal.invariant-loop-i
invariant-loop-i l = noted_in l.notes (drop l.i l.events) (drop l.i l.outcomes) ≡ noted_in (no_notes l.fn.mode) l.events l.outcomes

use Rattle.console_threads.proofs.Lemmas.{ℕ, List, Option, drop, Appends, hart_text}
use Rattle.console_threads.proofs.tell.write_hart.Given as goal

-- whatever comes of the events that are left is what comes of all
abbrev pub invariant-loop-i : goal.invariant-loop-i
invariant-loop-i g l =
    (end : Option (List ℕ)) → Appends (g.W.Write.contents l.out) end (hart_text l.hart (drop l.i l.events) (drop l.i l.outcomes)) → Appends (g.W.Write.contents l.fn.out) end (hart_text l.hart l.events l.outcomes)

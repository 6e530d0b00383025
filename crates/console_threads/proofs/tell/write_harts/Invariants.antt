use Rattle.console_threads.proofs.Lemmas.{ℕ, List, Option, drop, Appends, harts_text, eight_harts}
use Rattle.console_threads.proofs.tell.write_harts.Given as goal

-- whatever comes of the harts that are left is what comes of all
abbrev pub invariant-loop-hart : goal.invariant-loop-hart
invariant-loop-hart g l =
    (end : Option (List ℕ)) → Appends (g.W.Write.contents l.out) end (harts_text l.events l.outcomes (drop l.hart-index eight_harts)) → Appends (g.W.Write.contents l.fn.out) end (harts_text l.events l.outcomes eight_harts)

use Rattle.console.proofs.Lemmas.{ℕ, List, Option, Result, drop, ConsoleFault, Runs, RunOf, state, tells_waits, NotesOf, QueuedCalls}
use Rattle.console.proofs.commands.tell_waits.Given as goal

abbrev pub invariant-loop-hart : goal.invariant-loop-hart
invariant-loop-hart g l =
    (left : QueuedCalls) (n : NotesOf) (r : Result (Unit {0}) ConsoleFault) (t : RunOf g.row.D.Denot) (end : Option (List ℕ)) (m : NotesOf)
    → Runs (tells_waits g.D.Device.contents g.D.Device.failures (drop l.hart-index l.harts)) (state l.session left) (g.W.Write.contents l.out) n r t end m
    → Runs (tells_waits g.D.Device.contents g.D.Device.failures l.harts) (state l.session left) (g.W.Write.contents l.fn.out) n r t end m

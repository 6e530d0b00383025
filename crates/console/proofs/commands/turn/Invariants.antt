use Rattle.console.proofs.Lemmas.{ℕ, List, Option, Result, drop, ConsoleFault, Flow, Rests, Runs, RunOf, state, turn, NotesOf}
use Rattle.console.proofs.commands.turn.Given as goal

-- whatever comes of the harts that are left is what comes of all
abbrev pub invariant-loop-hart : goal.invariant-loop-hart
invariant-loop-hart g l =
    (r : Result Flow ConsoleFault) (t : RunOf g.row.D.Denot) (end : Option (List ℕ)) (n : NotesOf)
    → Runs (turn g.D.Device.contents g.D.Device.failures l.until (drop l.hart-index l.harts) l.flow) (state l.session l.running.queues) (g.W.Write.contents l.out) l.running.notes r t end n
    → Runs (turn g.D.Device.contents g.D.Device.failures l.until l.harts Rests) (state l.fn.session l.fn.running.queues) (g.W.Write.contents l.fn.out) l.fn.running.notes r t end n

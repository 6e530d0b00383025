use Rattle.console.proofs.Lemmas.{ℕ, ◌-◌, List, Option, Result, ConsoleFault, Flow, Moves, Runs, RunOf, state, turns, NotesOf}
use Rattle.console.proofs.commands.turns.Given as goal

-- whatever comes of the turns that are left is what comes of all
abbrev pub invariant-loop-turn : goal.invariant-loop-turn
invariant-loop-turn g l =
    (r : Result Flow ConsoleFault) (t : RunOf g.row.D.Denot) (end : Option (List ℕ)) (n : NotesOf)
    → Runs (turns g.D.Device.contents g.D.Device.failures l.plan l.harts (l.plan.most - l._turn) l.last) (state l.session l.running.queues) (g.W.Write.contents l.out) l.running.notes r t end n
    → Runs (turns g.D.Device.contents g.D.Device.failures l.plan l.harts l.plan.most Moves) (state l.fn.session l.fn.running.queues) (g.W.Write.contents l.fn.out) l.fn.running.notes r t end n

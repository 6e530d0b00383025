use Rattle.console.proofs.Lemmas.{ℕ, List, Option, Result, ConsoleFault, RunOf, state, NotesOf, PromptsAll}
use Rattle.console.proofs.prompt.prompt_all.Given as goal

-- whatever comes of the lines that are still typed is what comes of all
abbrev pub invariant-loop-number : goal.invariant-loop-number
invariant-loop-number g l =
    (r : Result (Unit {0}) ConsoleFault) (t : RunOf g.row.D.Denot) (end : Option (List ℕ)) (n : NotesOf)
    → PromptsAll g.D.Device.contents g.D.Device.failures l.help l.number (g.R.Read.remaining l.typed) (state l.session l.running.queues) (g.W.Write.contents l.out) l.running.notes r t end n
    → PromptsAll g.D.Device.contents g.D.Device.failures l.help 1 (g.R.Read.remaining l.fn.typed) (state l.fn.session l.fn.running.queues) (g.W.Write.contents l.fn.out) l.fn.running.notes r t end n

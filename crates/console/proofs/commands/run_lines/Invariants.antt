use Rattle.console.proofs.Lemmas.{ℕ, List, Option, Result, drop, map, length, line_said, ConsoleFault, Runs, RunOf, lines, state, NotesOf}
use Rattle.console.proofs.commands.run_lines.Given as goal

-- whatever comes of the lines that are left is what comes of all
abbrev pub invariant-loop-line : goal.invariant-loop-line
invariant-loop-line g l =
    (r : Result (Unit {0}) ConsoleFault) (t : RunOf g.row.D.Denot) (end : Option (List ℕ)) (n : NotesOf)
    → Runs (lines g.D.Device.contents g.D.Device.failures (drop (length l.yielded) (map (λ x. line_said x.command) l.fn.commands.items))) (state l.session l.running.queues) (g.W.Write.contents l.out) l.running.notes r t end n
    → Runs (lines g.D.Device.contents g.D.Device.failures (map (λ x. line_said x.command) l.fn.commands.items)) (state l.fn.session l.fn.running.queues) (g.W.Write.contents l.fn.out) l.fn.running.notes r t end n

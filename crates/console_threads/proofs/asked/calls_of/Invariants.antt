use Rattle.console_threads.proofs.Lemmas.{◌≡◌, ◌++◌, map, length, call_said, called}
use Rattle.console_threads.proofs.asked.calls_of.Given as goal

abbrev pub invariant-loop-line : goal.invariant-loop-line
invariant-loop-line l = l.calls.items ++ map (λ line. called (call_said line)) l.lines.items ≡ map (λ line. called (call_said line)) l.fn.lines.items

abbrev pub decreases-loop-line : goal.decreases-loop-line
decreases-loop-line l = length l.lines.items

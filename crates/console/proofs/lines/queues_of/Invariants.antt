use Rattle.console.proofs.Lemmas.{◌≡◌, map, drop, length, numbered, none_left, queued}
use Rattle.console.proofs.lines.queues_of.Given as goal

abbrev pub invariant-loop-line : goal.invariant-loop-line
invariant-loop-line l = queued l.queues (map numbered (drop (length l.yielded) l.fn.lines.items)) ≡ queued none_left (map numbered l.fn.lines.items)

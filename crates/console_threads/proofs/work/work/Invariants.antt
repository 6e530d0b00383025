use Rattle.console_threads.proofs.Lemmas.{HasMadeAll}
use Rattle.console_threads.proofs.work.work.Given as goal

abbrev pub invariant-loop-call : goal.invariant-loop-call
invariant-loop-call g l = HasMadeAll l.fn.task.seat l.yielded l.seat

use Rattle.bench.proofs.Lemmas.{IsNumbered}
use Rattle.bench.proofs.locks.lock_and_unlock.Given as goal

abbrev pub invariant-loop : goal.invariant-loop
invariant-loop l = IsNumbered l.slots

abbrev pub invariant-loop-number-2 : goal.invariant-loop-number-2
invariant-loop-number-2 l = IsNumbered l.slots

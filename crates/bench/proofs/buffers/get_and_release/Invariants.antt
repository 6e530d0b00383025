use Rattle.bench.proofs.Lemmas.{HasNone}
use Rattle.bench.proofs.buffers.get_and_release.Given as goal

abbrev pub invariant-loop-b : goal.invariant-loop-b
invariant-loop-b l = HasNone l.cache.seats

abbrev pub invariant-loop : goal.invariant-loop
invariant-loop l = HasNone l.cache.seats

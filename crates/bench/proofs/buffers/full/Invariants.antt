use Rattle.bench.proofs.Lemmas.{HasNone}
use Rattle.bench.proofs.buffers.full.Given as goal

abbrev pub invariant-loop-b : goal.invariant-loop-b
invariant-loop-b l = HasNone l.cache.seats

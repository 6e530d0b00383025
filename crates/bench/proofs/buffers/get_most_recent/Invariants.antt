use Rattle.bench.proofs.Lemmas.{HasNone}
use Rattle.bench.proofs.buffers.get_most_recent.Given as goal

abbrev pub invariant-loop : goal.invariant-loop
invariant-loop l = HasNone l.cache.seats

use Rattle.buffer_cache.proofs.Lemmas.{◌-◌, has_block, IsSeeking}
use Rattle.buffer_cache.proofs.chains.Chains.find.Given as goal

abbrev pub invariant-loop : goal.invariant-loop
invariant-loop l = IsSeeking (has_block l.b) l.seats l.self-inside.next l.at (46 - l.counter)

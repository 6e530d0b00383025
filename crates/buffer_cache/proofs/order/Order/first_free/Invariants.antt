use Rattle.buffer_cache.proofs.Lemmas.{◌-◌, find, is_free, numbered, IsGoing}
use Rattle.buffer_cache.proofs.order.Order.first_free.Given as goal

abbrev pub invariant-loop : goal.invariant-loop
invariant-loop l = IsGoing (λ n. is_free (numbered l.seats n)) l.self-inside.younger l.at (46 - l.counter) (find (λ n. is_free (numbered l.seats n)) l.self)

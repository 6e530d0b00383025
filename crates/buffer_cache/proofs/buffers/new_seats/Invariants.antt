use Rattle.buffer_cache.proofs.Lemmas.{◌≡◌, unused_from}
use Rattle.buffer_cache.proofs.buffers.new_seats.Given as goal

abbrev pub invariant-loop-number : goal.invariant-loop-number
invariant-loop-number l = l.seats.items ≡ unused_from 0 l.number

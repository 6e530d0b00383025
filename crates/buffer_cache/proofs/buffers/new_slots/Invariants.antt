use Rattle.buffer_cache.proofs.Lemmas.{◌≡◌, length, AllNew}
use Rattle.buffer_cache.proofs.buffers.new_slots.Given as goal

abbrev pub invariant-loop : goal.invariant-loop
invariant-loop l = record {
  new : AllNew l.buffers.items;
  count : length l.buffers.items ≡ l.counter;
}

use Rattle.sleep_lock.proofs.Lemmas.{◌≡◌, ◌++◌, length, into_iter_items, row_of}
use Rattle.sleep_lock.proofs.row.Slots.new.Given as goal

abbrev pub invariant-loop-value : goal.invariant-loop-value
invariant-loop-value g l = record {
  row : l.items.items ≡ row_of 0 l.yielded;
  number : l.number ≡ length l.yielded;
  rest : l.yielded ++ into_iter_items l.value-iterator ≡ l.fn.values.items;
}

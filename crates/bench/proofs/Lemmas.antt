-- What the proofs of this crate's functions use: its lemmas, and what they speak of.
pub use Rattle.fs_machine.proofs.Vocabulary.{GuardState, IsLocked, List, Option, SeatState, TablesState, ap, length, subst, sym, ◌+◌, ◌∙◌, ◌≡◌}
unfoldable pub use Rattle.fs_machine.proofs.Vocabulary.{IsNumbered, IsOut}
pub use Rattle.bench.specs.InHand.{HasNone}
pub use Rattle.hart_runner.proofs.Sent.{kernel_sync, seat_send, six_send, three_send, two_send}
pub use Rattle.hart_runner.specs.contracts.gate.NoGate.{the_row}
pub use Rattle.bench.proofs.InHand.{back_so, got_so, none_unused, read_so}
pub use Rattle.bench.specs.contracts.threads.four_work.{L-row}
pub use Rattle.fs_machine.specs.InMemory.{Inode}

-- What this crate's proofs speak of: its own definitions, and what the crates below and the library call things.
pub use Rattle.buffer_cache.proofs.Vocabulary.{Bool, BufferState, Err, GuardState, IsHeld, List, None, Ok, OnErr, OnOk, Option, Result, SeatState, Some, ap, arith, count_of, false, find, get_by, get_new, given_back, guard_of, has_block, holder_of, if◌then◌else◌, is_free, is_held_by, is_out, option_and_then, refl, seat_of, subst, suc, sym, true, with_content, with_holder, with_seat, zero, ℕ, ◌+◌, ◌∙◌, ◌≡◌, ◌≤◌}
unfoldable pub use Rattle.buffer_cache.proofs.Vocabulary.{get_of, unused_from}
pub use Rattle.bench.specs.InHand.{HasNone, HasOne, this_hart}
pub use Rattle.buffer_cache.proofs.Seated.{held_seat}
pub use Rattle.fs_machine.proofs.Owning.{count_first}
pub use Rattle.inodes_on_blocks.proofs.Hands.{IfGot, back_hand, got_hand}
pub use Rattle.buffer_cache.specs.declared.got.Got.{Got}

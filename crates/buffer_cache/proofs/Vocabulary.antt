-- What this crate's proofs speak of: its own definitions, and what the crates below and the library call things.
pub use Rattle.sleep_lock.proofs.Vocabulary.{GuardState, IfSome, List, None, Option, SlotState, Some, [], ap, arith, cases_eq, filled, get_or_from_slice_get, inl, inr, length, length-set, lock_at, none-some, refl, row_of, same_Some, set, set-get_or, slice_get, slice_get_within, slice_set, subst, suc, sym, zero, ℕ, ◌++◌, ◌+◌, ◌<◌, ◌∙◌, ◌∷◌, ◌≡◌, ◌≢◌}
unfoldable pub use Rattle.sleep_lock.proofs.Vocabulary.{IsOut, lock_of, unlocked}
pub use Rattle.buffer_cache.specs.Vocabulary.{MatchOption, block_at, find, option_and_then, option_map, range_with_len, unwrap_or}
pub use Rattle.buffer_cache.specs.Lists.{change_first, change_to_end, count_of}
pub use Rattle.std.proofs.Common.{Bool, Err, IsSome, Ok, OnErr, OnOk, Result, cond, false, get_or, if◌then◌else◌, is_none, is_some, map, nat_lt, not, true, ◌%◌, ◌&&◌, ◌*◌, ◌-◌, ◌==◌, ◌↔◌, ◌≤◌, ◌⊎◌}
pub use Rattle.std.proofs.lemmas.Bool.Decides.{nat_tests}
pub use Rattle.buffer_cache.specs.Seats.{AllClean, HoldersBelow, IsBelow, IsCleanSeat, IsGuardOf, IsHeld, IsPinned, IsRecorded, IsSound, Keeps, KeepsHeld, KeepsOthers, Passes, SeatState, UnusedFirst, as_new, given_back, has_block, holder_of, is_any, is_free, is_held_by, is_number, is_out, is_pinned, is_recorded, is_settled, is_unused, kept, seat_of, seen_in, slot_of, unused, with_content, with_holder, with_pin, with_seat, without_holder}
unfoldable pub use Rattle.buffer_cache.specs.Seats.{unused_from}
pub use Rattle.buffer_cache.specs.Order.{IsKept, IsOrdered, in_order, is_same, numbered}
unfoldable pub use Rattle.buffer_cache.specs.Order.{numbers}
pub use Rattle.std.specs.List.{count_by, position, position_or_len}
pub use Rattle.buffer_cache.specs.Buffers.{BufferState}
pub use Rattle.buffer_cache.specs.Getting.{IfHeld, get_by, get_new, guard_of}
unfoldable pub use Rattle.buffer_cache.specs.Getting.{get_of}
pub use Rattle.buffer_cache.specs.Links.{AreGrouped, IsChained, IsPath, IsRing, block_in, first_or, head_behind, head_of}
unfoldable pub use Rattle.buffer_cache.specs.Links.{follow}
pub use Rattle.buffer_cache.specs.declared.got.Got.{Got}
pub use Rattle.buffer_cache.specs.Rows.{AllSeated, InsideFits, IsSeated, SlotFits, has_number}
pub use Rattle.buffer_cache.specs.declared.got.Got.TheVariants.{Held, Waits}
pub use Rattle.std.proofs.lemmas.Bool.{cases_lt}
pub use Rattle.std.proofs.lemmas.List.{append_assoc, get_or-set_other, get_or-set_same, get_or_default, get_or_past, length-map, map-set}
pub use Rattle.block_device.specs.BlockLaws.{block_at-set_other, block_at-set_same}
pub use Rattle.std.proofs.Math.Seq.{map-set_same}
pub use Rattle.std.proofs.lemmas.List.FromFn.{get_or-range_with_len, length-range_with_len}
pub use Rattle.sleep_lock.proofs.Lists.{set_same, slice_get-set_other, slice_get-set_same}
pub use Rattle.sleep_lock.proofs.Locks.{IfSome_each}
pub use Rattle.std.proofs.Math.ListN.{get_or-map}
pub use Rattle.std.proofs.lemmas.List.Recursion.{is_count_by}
pub use Rattle.std.proofs.lemmas.Option.{slice_get-map, slice_get_read}

-- What the proofs of this crate's functions use: its lemmas, and what they speak of.
pub use Rattle.buffer_cache.proofs.Vocabulary.{AreGrouped, BufferState, Got, Held, IfHeld, IfSome, IfSome_each, IsChained, IsHeld, IsKept, IsPinned, IsRecorded, IsSeated, IsSome, IsSound, Keeps, KeepsHeld, KeepsOthers, List, None, Option, SeatState, Some, Waits, [], ap, arith, as_new, block_at, change_to_end, count_of, false, find, get_or, guard_of, has_block, holder_of, if◌then◌else◌, in_order, inl, inr, is_any, is_free, is_held_by, is_pinned, is_recorded, is_same, is_some, is_unused, length, length-map, map, numbered, option_map, position, refl, row_of, same_Some, seat_of, seen_in, set, slice_get_read, slice_set, slot_of, subst, sym, true, unwrap_or, with_content, with_pin, without_holder, ℕ, ◌++◌, ◌+◌, ◌-◌, ◌<◌, ◌==◌, ◌↔◌, ◌∙◌, ◌∷◌, ◌≡◌, ◌≤◌, ◌⊎◌}
unfoldable pub use Rattle.buffer_cache.proofs.Vocabulary.{get_of, lock_of, numbers, unused_from}
pub use Rattle.buffer_cache.specs.Seats.{seen}
pub use Rattle.buffer_cache.proofs.Ordered.{IsFirst, counted, first_free_in, first_of, has_free, in_order_new, numbered_read, once_of, seats_count}
pub use Rattle.buffer_cache.proofs.Chained.{IsSeeking, chained_anew, chained_back, chained_lent, chained_new, chained_with, moved_to, seek_begun, seeks_on, sought, sought_all}
pub use Rattle.buffer_cache.proofs.Firsts.{counted_in, place_change, place_first, placed}
pub use Rattle.buffer_cache.proofs.Kept.{IsIn, held_at, held_number, held_of, held_within, keeps_filled, keeps_given, keeps_lent, keeps_pinned, keeps_renewed, kept_new, slot_in}
pub use Rattle.buffer_cache.proofs.Laws.{BackLaws, GetLaws, back_laws, change_some, fill_either, get_laws, home_bytes, home_then, pin_block, pin_keeps, pin_pins, pin_recorded, pin_seen, unchanged_kept, unpin_others, written_either, written_err, written_ok}
pub use Rattle.buffer_cache.proofs.Rings.{AreInOrder, ring_made, unlinked}
pub use Rattle.buffer_cache.proofs.Seated.{LendGives, RenewGives, Row, either_way, held_cached, held_out, lend_gives, lends_so, renew_gives, renews_so, seated_at, slot_at, slot_within}
pub use Rattle.buffer_cache.specs.Order.{IsLinked}
pub use Rattle.buffer_cache.proofs.Enough.{some_free}
pub use Rattle.buffer_cache.proofs.Made.{AllNew, new_push, no_unused, seated_new, unused_push}
pub use Rattle.buffer_cache.proofs.Moved.{moved_last, youngest_stays}
pub use Rattle.buffer_cache.proofs.Once.{once_at}
pub use Rattle.buffer_cache.proofs.Sound.{once_content, seen_home, seen_past, sound_home, sound_pin, sound_uncached, sound_unpin, sound_unused}
pub use Rattle.buffer_cache.proofs.Walks.{IsGoing, goes_on, going_begun, gone}
pub use Rattle.std.proofs.Common.{length-append, rules}
pub use Rattle.std.proofs.lemmas.Result.{IfOk-weaker, on_ok_weaker}

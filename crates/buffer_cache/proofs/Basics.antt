-- The lemmas on which most other lemmas of this crate build.
pub use Rattle.buffer_cache.proofs.Blocks.{equal, equals, is_block, kept_back, kept_with, new_seen, seat_back_here, seat_back_other, seat_has, seat_new_here, seat_new_other, seat_with_here, seat_with_other}
pub use Rattle.buffer_cache.proofs.Enough.{some_free}
pub use Rattle.buffer_cache.proofs.Firsts.{count_more, count_push, count_same, count_to_end, first_counted, first_passes, length-change_first, length-change_to_end, no_place, none_counted, pick, place_change, position_some}
pub use Rattle.buffer_cache.proofs.Once.{counted_at}
pub use Rattle.buffer_cache.proofs.Ordered.{changed_in, counted, first_in, first_of, is_equal, moved_in, none_in, number_is, once_of, ordered_first, ordered_moved, ordered_new, ordered_set, placed_first, range_apart, range_at, range_within, same_first}
pub use Rattle.buffer_cache.proofs.Seated.{Row, get_free, get_in, get_out, held_cached, held_seat, held_unread, same_number, seated_at, seated_filled, seated_given_back, seated_pinned, slot_within}

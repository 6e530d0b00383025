-- What the proofs of this crate's functions use: its lemmas, and what they speak of.
pub use Rattle.group_log.proofs.Vocabulary.{Bool, BufferState, CacheState, Ended, Err, Failed, Free, Halted, HasRoom, IfMade, IsHeld, IsHome, IsMember, IsOutsideLog, IsQuiet, IsSoundLog, List, LogState, None, Ok, Open, Option, Phase, Progress, Result, SeatState, Some, Staging, StaysOrBecomes, WaitsFor as Waits, Wrote, ap, arith, block_at, count_of, false, given_back, has, if◌then◌else◌, is_pinned, is_point, joined, left_at, length, members_with, nat_lt, nat_tests, next_phase, option_map, phase_at_leave, refl, replicate, seat_of, seats_after, seen, slice_get, slice_set, slot_of, subst, sym, true, with_block, with_content, with_holder, with_pin, with_seat, ℕ, ◌+◌, ◌<◌, ◌==◌, ◌∙◌, ◌≡◌, ◌≢◌, ◌⊎◌}
unfoldable pub use Rattle.group_log.proofs.Vocabulary.{head_block, recovered}
pub use Rattle.fs_layout.proofs.Vocabulary.{overwrite, spell_log_head}
pub use Rattle.group_log.proofs.Getting.{apart_from, gets_recorded, put_back, put_home, recorded_pinned, same_cache, waits_same}
pub use Rattle.group_log.proofs.Kept.{Kept, kept_back, kept_change, kept_get, kept_same, sound_kept}
pub use Rattle.group_log.proofs.Slots.{KeepSlots, no_slots, slot_back, slot_with, slots_begun, slots_get, slots_halted, slots_kept, slots_open, slots_recorded, slots_written}
pub use Rattle.std.proofs.Common.{Decides, IfSome, IsTrue, MatchBool, OnErr, OnOk, rules, tests}
pub use Rattle.group_log.proofs.Rooms.{joined_one_more, joins_more, length-set_member, member_at, member_below, member_joined, member_leaves, member_some, none_past, one_more_at, room_at, room_below, room_some, rooms_join, rooms_le}
pub use Rattle.group_log.proofs.Steps.{open_of}
pub use Rattle.group_log.proofs.Committed.{done_good, done_recovered, failed_good, failed_recovered}
pub use Rattle.group_log.proofs.Cuts.{stops_at_a_cut}
pub use Rattle.group_log.proofs.Fresh.{fresh_good, fresh_recovered, seen_on_disk}
pub use Rattle.group_log.proofs.Leaving.{begun_good, commits_none, free_stays, left_good}
pub use Rattle.group_log.proofs.Marked.{cuts_have_replies, marks_tell_stops, none_is_marked_in_part}
pub use Rattle.group_log.proofs.Moving.{commit_move, done_move, logs_are_logged_runs, logs_stop_at_a_cut, open_move, then_move}
pub use Rattle.group_log.proofs.Outcomes.{same_seats}
pub use Rattle.group_log.proofs.Recorded.{pinned_by_pin, recorded_all, room_to_add, room_to_pin}
pub use Rattle.group_log.proofs.Seats.{seat_of_others}
pub use Rattle.group_log.specs.Group.{one_more}
pub use Rattle.group_log.proofs.Whole.{calls_keep_whole}
pub use Rattle.std.proofs.lemmas.Bool.{false≢true}
pub use Rattle.std.proofs.lemmas.Bool.Decides.{Decides-by_or, Decides-eqb, same_from_decides}
pub use Rattle.std.proofs.lemmas.Iterator.{YieldsList-from_slice, cases_from_any}
pub use Rattle.std.specs.List.{AllWithin, HoldsAt}

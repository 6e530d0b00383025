-- The lemmas on which most other lemmas of this crate build.
pub use Rattle.group_log.proofs.Cuts.{stops_at_a_cut}
pub use Rattle.group_log.proofs.Getting.{held_cached}
pub use Rattle.group_log.proofs.Kept.{first_stays, kept_back, kept_change, kept_get, not_free, pins_kept, recorded_of, some_recorded, sound_kept}
pub use Rattle.group_log.proofs.Rooms.{length-one_more, length-set_member, member_joined, rooms_join, rooms_le, rooms_leave, rooms_one_more}
pub use Rattle.group_log.proofs.Seats.{count_less, count_more, count_same, of_another, others_given_back, pick, seat_changed, seat_given_back, seat_of_others}
pub use Rattle.group_log.proofs.Writes.{cleared, cleared_recovered, copied, copied_recovered, headed, headed_recovered, home_recovered, homes_stay, not_inside, place_stays, went_home}

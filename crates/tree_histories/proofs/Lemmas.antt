-- What the proofs of this crate's functions use: its lemmas, and what they speak of.
pub use Rattle.tree_histories.proofs.Vocabulary.{Version, FewSlotsIn, IsWalk, Node, action_in, call_in, empty_in, face_seen, if◌then◌else◌, is_absolute, length-set, path_of, query_in, root, ◌++◌, Call, Due, Fits, HasHeard, Heard, HearsSo, IfOk, IsAt, IsBook, IsDead, IsDeadWith, IsDue, IsKept, IsNewCall, IsOrdered, IsTimely, KeptTree, Leads, List, Mark, None, Option, Placed, Position, Reply, Some, Stand, TellsOf, TracedCall, TreeData, Under, Whole, WholeAsks, [], after, ap, arith, cases_eq, climbs, drop, elements, end_of, false, get_or, hart_count, inl, inr, is_lost, is_nothing, length, length_push, max, next_from, not, nothing_yet, passed, refl, replicate, replies, set, slice_get, slice_get_within, stage_of, stand_of, start, steps_left, subst, sym, take, tree_of, walking, with_hart, ℕ, ◌+◌, ◌-◌, ◌<◌, ◌∙◌, ◌≡◌, ◌≢◌, ◌≤◌}
unfoldable pub use Rattle.tree_histories.proofs.Vocabulary.{Chain, acts_of, all_fall, last_event, same_name}
pub use Rattle.tree_histories.specs.Vocabulary.{Ret, WholeFits, asks, lowest, reply_to, whole_of}
unfoldable pub use Rattle.tree_histories.specs.Vocabulary.{any_used, first_slot}
pub use Rattle.plain_tree.proofs.Vocabulary.{descriptor_count}
unfoldable pub use Rattle.plain_tree.proofs.Vocabulary.{any_below, lowest_from, pieces}
pub use Rattle.tree_histories.proofs.ExploreLemmas.{all_dead, call_not, dead_back, dead_numbers, dead_with_back, due_on, earliest, explored, explored_not, found_explains, kept_then, left_on, list_explains, none_explains, numbers_on, placed_at_all, placed_bad, placed_made, placed_not, stepped_not, taken_back, tried_bad, tried_not}
pub use Rattle.tree_histories.proofs.PlaceLemmas.{EndsAt, begin_at, between, end_still, ends_push, gone, got, leads_front, leads_next, placed, read_at, retree, same_kept, snoc_front, stand_none, stand_other, stand_own, start_push, undone}
pub use Rattle.plain_tree.proofs.PathLemmas.{found_end, found_slash, no_elements, pieces_more, same_pointwise}
pub use Rattle.tree_histories.proofs.Falling.{Fallen, fallen_first, fallen_not, fallen_now, lost_more, moves_on_so, walk_fails}
pub use Rattle.tree_histories.proofs.Harts.{put_back_changed, put_fits}
pub use Rattle.inode_machine.specs.Parts.{P}
pub use Rattle.plain_tree.proofs.ReadLemmas.{few_not, few_unused, lowest_next}
pub use Rattle.plain_tree.specs.declared.refused.ApplyRefused.{ApplyRefused}
pub use Rattle.std.proofs.Common.{rules, ◌*◌}
pub use Rattle.std.proofs.lemmas.List.Sorted.{IsNonDecreasingBy-from_sort_by_key}
pub use Rattle.tree_histories.proofs.Booked.{book_none, book_replies, book_started}
pub use Rattle.tree_histories.proofs.Climbing.{climbs_after, climbs_here, climbs_nowhere}
pub use Rattle.tree_histories.proofs.Hearing.{heard_begun, heard_on, started_so}
pub use Rattle.tree_histories.proofs.Hinting.{hints_next, hints_none}
pub use Rattle.tree_histories.specs.Hints.{hints_of}
pub use Rattle.tree_histories.proofs.ListLemmas.{chain_none, last_at, last_none}
pub use Rattle.tree_histories.proofs.OrderLemmas.{HasEnds, NoneStands, in_order, is_due}
pub use Rattle.tree_histories.proofs.PositionLemmas.{bad_dead, bad_numbers, no_call, no_fit, no_next, no_place, not_timely}
pub use Rattle.tree_histories.proofs.Seeing.{empty_nowhere, found_name, seen_take, sees_so}
pub use Rattle.tree_histories.proofs.Telling.{only_acts, only_told, told_alone, told_begun, told_looked, told_lost, told_next, told_nowhere, told_quit, told_start}
pub use Rattle.plain_tree.specs.Applied.{IsRefused}

-- What the proofs of this crate's functions use: its lemmas, and what they speak of.
pub use Rattle.plain_tree.proofs.Vocabulary.{Directory, File, Hold, NodeKind, List, MarksReached, Node, None, OpenFileEntry, Option, Progress, Slot, Some, Tree, TreeData, [], ap, applied, arith, at_hold, at_node, closed, descriptor_count, drop, drop_hold, elements, emptied, entry_bytes, false, fd_names, file_at, get_or, has_room, hold_names, if◌then◌else◌, is_marked, is_nothing, length, live_directory, lowered, lowest, node_at, not, parent, part, raised, read_count, refl, replicate, resolve, settled_below, slots_of, subst, sym, take, tree_of, true, written_kind, ℕ, ◌++◌, ◌+◌, ◌-◌, ◌<◌, ◌==◌, ◌||◌, ◌↔◌, ◌∙◌, ◌≡◌, ◌≢◌, ◌≤◌}
unfoldable pub use Rattle.plain_tree.proofs.Vocabulary.{AllBelong, Follows, Rises, acts_of, answer_with, any_below, any_used, cleared, effect_with, entries, file_in, first_cause, first_free, first_slot, follow, had_room, has_fd, is_named, look, lowest_from, pieces, place_of, put, refusal_with, same_name, settle}
unfoldable pub use Rattle.plain_tree.specs.Tree.{parent_from, parent_of}
unfoldable pub use Rattle.plain_tree.specs.Fresh.{answers}
pub use Rattle.plain_tree.proofs.TreeLemmas.{advances, changed, descriptor_set, directory_set, file_added, file_moved, file_stays, harts_set, hold_set, inherited, live_below, live_is, nodes_grown, nodes_set, none_next, on_result, put_node_back, stays}
pub use Rattle.plain_tree.proofs.ProgressLemmas.{HasCome, all_come, all_follow, follows_none, next_follows, none_come, other_come, other_follows, own_come, own_follows, through_decides}
pub use Rattle.plain_tree.proofs.ReadLemmas.{below_all, below_more, below_true, few_not, few_unused, lowest_next}
pub use Rattle.plain_tree.proofs.ReplyLemmas.{acts_end, acts_other, acts_own, cause_end, cause_on, cause_own, no_room, room_end, room_own}
pub use Rattle.plain_tree.specs.Code.{is_id, with_name}
pub use Rattle.plain_tree.proofs.ActLemmas.{child_below, close_below, dup_room, emptied_far, few_far, few_still, given_file, held_far, mkdir_few, raised_far, read_advances, removed_far}
pub use Rattle.plain_tree.proofs.ApplyLemmas.{no_place}
pub use Rattle.plain_tree.proofs.CheckLemmas.{belong_end, belong_on, falls, rises_end, rises_on, stray}
pub use Rattle.plain_tree.proofs.FileLemmas.{closed_without, no_orphan}
pub use Rattle.plain_tree.proofs.LeadLemmas.{LeadsSame, leads_end, leads_more, leads_not, made_leads, step_placed}
pub use Rattle.plain_tree.proofs.MarkLemmas.{all_found, closed_all, first_marked, named_copy, next_fewer, next_marks, none_marked, part_at}
unfoldable pub use Rattle.plain_tree.proofs.MarkLemmas.{unmarked}
pub use Rattle.plain_tree.proofs.PathLemmas.{climbs_the_same, found_end, found_slash, no_elements, pieces_more, same_pointwise}
pub use Rattle.plain_tree.proofs.RowLemmas.{rows_name}
pub use Rattle.plain_tree.proofs.RowsStay.{rows_stay}
pub use Rattle.plain_tree.proofs.SettleLemmas.{settle_end, settle_none, step_gone, step_kept}
pub use Rattle.plain_tree.proofs.SettledSteps.{settled_step}
pub use Rattle.plain_tree.proofs.Settling.{settle_again}
pub use Rattle.plain_tree.proofs.SlotLemmas.{clears_found, clears_none, entries_more, entries_nil, free_end, free_found, free_next, pass_none, pass_other}
pub use Rattle.plain_tree.proofs.StepLaws.{applied_step, chain_one, step_one, step_or_nothing}
pub use Rattle.plain_tree.specs.Calls.{first_answer}
pub use Rattle.plain_tree.specs.Explains.{IsWritten}
pub use Rattle.plain_tree.specs.Marks.{LooksMarked}
pub use Rattle.plain_tree.specs.declared.trace.TracedCall.{TracedCall}
pub use Rattle.std.proofs.lemmas.Bool.Decides.{not_from_Decides}
pub use Rattle.std.proofs.lemmas.List.{get_or_default}
pub use Rattle.std.specs.List.{slice_get}

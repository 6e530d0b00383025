-- The lemmas on which most other lemmas of this crate build.
pub use Rattle.tree_laws.proofs.Book.{BookOk, below_later, explained, later_ok, list_has, passes_ok, reply_ok, start_ok, tell_ok, write_ok}
unfoldable pub use Rattle.tree_laws.proofs.Book.{AllBelow}
pub use Rattle.tree_laws.proofs.Forest.{apart, childless, children_none, cleared_forest, entered_shape, grown_forest, mentions_part, mentions_two, plain_or, shape_rest, shrunk_forest}
pub use Rattle.tree_laws.proofs.Formed.{InRange, Keeps, counted_folders, entered_folders, file_forest, is_raised, keeps_on, keeps_put, new_apart, new_folders, new_keeps, new_links, new_range, not_folder, not_raised, raises_part, raises_put, range_put, well_content, well_counted, well_cwd, well_entered, well_file, well_files, well_held, well_nodes, well_same, with_new}
pub use Rattle.tree_laws.proofs.Lists.{map_length, more_length}
pub use Rattle.tree_laws.proofs.Maps.{and_true, any_at, any_none, either, eq_is, eq_not, eq_self, none_any, or_none, put_is, put_other, put_same, same_or}
pub use Rattle.tree_laws.proofs.Nodes.{everywhere, folder_dead, folder_links, folder_live, folder_none, folder_some, folders_put, linked_live, live_some, put_self, settle_folders, settled_well, some_node}
pub use Rattle.tree_laws.proofs.Slots.{Dots, cleared_gone, cleared_other, dots_differ, entered_other, first_counts, first_dot, first_dotdot, first_dots, first_unused, flip_name, same_is, same_self, slot_here, slot_none, slot_past}
pub use Rattle.tree_laws.proofs.Sums.{count_entered, count_nil, count_unused, one_no, one_yes, sum_none}
pub use Rattle.tree_laws.proofs.Walked.{LeavesWalk, StepBy, WalkOk, left_same, lost_fails, walk_falls, walk_kept}
pub use Rattle.tree_laws.proofs.Walks.{Removes, after_removal, first_found, follow_end, follow_on, follow_one, follow_step, follow_stop, look_bad, look_good, look_in, parent_bad, parent_here, parent_nil, parent_on, parent_step, parent_stop}

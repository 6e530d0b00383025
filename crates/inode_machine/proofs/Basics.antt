-- The lemmas that most of this crate's other lemmas use.
pub use Rattle.inode_machine.proofs.Acting.{Fits, act_good, act_good_to, acts_did, acts_gone, no_walk, told_step, two_put}
pub use Rattle.inode_machine.proofs.Acts.{Finder, Finding, finding, found_world, last_made, last_takes, refused_made, start_made, start_takes}
pub use Rattle.inode_machine.proofs.Both.{Serves, both, both_world, row_same}
pub use Rattle.inode_machine.proofs.Claiming.{Mendable, claimed_held, mend_fine, mended_own, s-claim, s-fill, s-store}
pub use Rattle.inode_machine.proofs.Counting.{Gives, Writes, after_unlock, gives, not_home, one_most, s-give, spares, writes}
pub use Rattle.inode_machine.proofs.Drops.{s-drop}
pub use Rattle.inode_machine.proofs.Dups.{Behind, Flagging, Refused, SameDesk, SameRow, behind, behind_none, desk_changes, dupped, fails, filling, flagging, less_is, not_at, not_one, refused_good, renewed, renewed_at, renewed_same, renewed_slots, renewed_types, s-double, s-join, s-join-from, s-leave, s-leave-from, s-say, same_desk, with_new}
pub use Rattle.inode_machine.proofs.Endings.{MayRest, Walked, back_at, face_type, follows_begin, follows_look, follows_lost, follows_quit, gone_at, home, home_is, joined_own, looks, may_rest, may_stay, missed, names_plain, ready_at, s-ends, s-lost, s-refuse, tells, times_none, walked_begun, walked_tells}
pub use Rattle.inode_machine.proofs.Frame.{HartStep, Fair, Ours, bond_of, directory_named, fair, fair_same, fair_then, files_then, has_inode, has_none, is_put, kept_here, one_refs, ours_none, ours_some, own_inodes, put_elim, refers_on, refers_put, file_tables_same, stands_in, stands_on, two_refs, type_on}
pub use Rattle.inode_machine.proofs.Freeing.{lone_file, s-take-kept, unnamed}
pub use Rattle.inode_machine.proofs.Handings.{HandsAll, NextUsed, SameTied, counted_more, lent_desks, next_is, next_none, next_past, same_tied, sum_twice, tied_as, tied_handed, tied_lent}
pub use Rattle.inode_machine.proofs.Holdings.{Holding, IsWhole, HasJoined, IsAnswerable, holding_on, holding_same, holding_set, holding_to, mendable, s-end, s-give-end, s-give-up, s-give-up-in, stays_mended, unlisted, unlisted_refs}
pub use Rattle.inode_machine.proofs.Holds.{Moves, Rehold, Turned, bump_stops, bumps, gone_made, held_tree, held_world, high, low, reholds, turned, unbumps}
pub use Rattle.inode_machine.proofs.Listing.{IsListed, Listed, listed_among, listed_beside, listed_free, listed_held, listed_on, one_at, one_else}
unfoldable pub use Rattle.inode_machine.proofs.Listing.{times}
pub use Rattle.inode_machine.proofs.Looks.{Agrees, KeepsHold, MendingOf, MoveFine, live_face, look_refused_good, mends, note_of, noting, quit_good, s-take-then, spoilt, unheld_is}
pub use Rattle.inode_machine.proofs.Kept.{moves_alone, moves_history}
pub use Rattle.inode_machine.proofs.Names.{AllNames, both_paths, path_names}
pub use Rattle.inode_machine.proofs.Openings.{FirstOf, Fresh, Opening, first_is, fresh_id, opened_row, opened_tree, opened_world, opening, row_back, unopened_row}
pub use Rattle.inode_machine.proofs.Paths.{Follows, agrees_look, begun_by, begun_refused, begun_walking, quit_step, s-see, walking_begun, walking_on, walking_quit, walking_told, written_by}
pub use Rattle.inode_machine.proofs.Rest.{type_of_directory}
pub use Rattle.inode_machine.proofs.Resting.{given_is, idle_as, unlocks_nothing}
pub use Rattle.inode_machine.proofs.Rows.{below_is, is_at_some}
pub use Rattle.inode_machine.proofs.Rules.{FairTo, Locking, MayRefer, UnlocksAll, Ups, each_refs, fine_after, has_disk, has_node, here_refs, is_out, live_typed, locked_held, locking, locks_it, locks_none, my_refs, noted_type, opens_slots, others, quiet, quiet_to, root_live, s-owned, s-owned-from, s-take, s-up, type_there, total_changed, total_same, ups, walks_refs}
pub use Rattle.inode_machine.proofs.FileTablesSteps.{Sells, names_less, own_takes, sells_did}
pub use Rattle.inode_machine.proofs.Starts.{Inherits, begun_same, inherit_begins, start_is}
pub use Rattle.inode_machine.proofs.Tables.{Changes, changed_file_tables, changes, closed_file_tables, kept_open, less_not, lowest_same, tied_closed, users_fd, users_put, users_some, with_fd}
pub use Rattle.inode_machine.proofs.Walking.{moves_good, moves_to, of_range, own_walk, refs_walk, stage_walk, walk_did, walk_named_did}
pub use Rattle.inode_machine.proofs.Walks.{At, Gone, Known, Lost, Mending, On, Ready, Stays, few_listed, known_there, names_stay, on_refers, s-arrive, s-walk, s-walk-parent, stays_same}

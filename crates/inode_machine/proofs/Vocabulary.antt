-- What this crate's proofs speak of: its own definitions, and what the crates below and the library call things.
pub use Rattle.tree_laws.proofs.Vocabulary.{Act, Acts, Begin, BeginsNext, Bool, Busy, Deed, Event as Turn, Explains, Folders, Happens, History, IsForest, IsInPlace, IsLeastUnused, IsNewNode, IsNext, IsPlayed, IsStartBy, IsThere, IsWellFormed, List, Look, LookupLeadsTo, MayChoose, MayEnd, Move, MoveStep as Step, Name, None, Nothing, Option, Own as OwnMove, PlaysAny, GiveUpWalk, Shown, Some, Stage, Starts, StepWith, Steps, Tells, Tree, TreeData, Walk, World as Told, [], after, all_slots, and_then, ap, append_assoc, arith, at_hold, before, begins, climbing, closed, creates, descriptor_count, dot, dotdot, drop_hold, elements, emptied, empty_it, enter_hold, fail, false, fd_names, file_at, file_names, finishes, folder, folders_of, follows_path, hart_count, has, has_room, hold_names, holds_raised, if◌then◌else◌, inl, inr, is_absent, is_absolute, is_directory, is_file, is_live, is_nothing as no_fd, length, links_in, links_of, live_directory, lowered, lowest, makes_node, map, moves_on, name_taken, nat_lt, nat_tests, new_directory, new_file, next_piece, node_at, node_or, not, not_empty, opened, opens_one, or_else, parent, passes, path_of, piece, piece_count, raise_hold, raised, raised_at, refl, refused, resolve, root, shown_of, slots_of, start_of, starts, stepped, subst, suc, sym, told_by, trace_of, tree_of, true, walks_at, with_nodes, written, written_kind, wrote, zero, ℕ, ◌&&◌, ◌*◌, ◌++◌, ◌+◌, ◌-◌, ◌<◌, ◌==◌, ◌||◌, ◌∙◌, ◌∷◌, ◌≡◌, ◌≢◌, ◌≤◌, ◌⊎◌, Chain, answer_with, effect_with, entries, refusal_with}
unfoldable pub use Rattle.tree_laws.proofs.Vocabulary.{Alone as Lone, NoneClimbs as Calm, Runs as Goings, answer_by, any_below, any_used, cleared, effect_by, entries_by, file_in, first_cause, first_free, first_slot, follow, had_room, has_fd, is_named, last_cause, look, lowest_from, next_of, one_if, parent_from, parent_of, pieces, place_of, put, raises, refusal_by, reply_of, same_name, settle, sum_below}
pub use Rattle.plain_tree.proofs.Vocabulary.{AsksForWhatStays, Key, bump_refusal, cause_of, count_limit, filter, is_empty, key_at, key_is, key_names, key_of, no_driver, open_kind, row_of, take, take-append-drop, ◌^◌}
pub use Rattle.inode_machine.specs.Vocabulary.{AllHonest, Began, Begins, Blocks, EventOutcome, ExecResult, DirectorySlots as DirectoryFull, DiskInodes, Do, Event, Exists, Full, IsWholeCall, Lawful, MemInodes, NotEmpty, OpenFiles, Prog, Ran, Refuses, Ret, Row, Run, Start, State, Step as StepOf, Stops, PlaysStep, Theory, Waits, fresh, next, piece_len, run, unmarked}
pub use Rattle.atomic_programs.proofs.Vocabulary.{Begun, Ends, Fine, Goes, Good, Grown, HonestStep, IsBeginning, IsHonest, Laws, OfNext, OpWithAnswer, P, PlacesOne, Right, Safe, Sound, Wp, all_told, asks, busy_in, moved, oldest_first, onto, own, start_run, step_prog, step_run, step_unless, told, tried, unchanged, ◌/◌}
pub use Rattle.inode_machine.specs.World.{Answer, ClaimResult, Desk, Entry, EntryResult, InPlace, JoinResult, Joined, Lent, LoanResult, LockResult, LocksIt, Mark, Mine, Moved, New, NoBlock, NoInode, NoPlace, NoSlot, NotJoined, NotLocked, Note, Op, Outside, Picks, Refused, Room, RoomFor, Short, Whole, World, Wrote, stage_of}
pub use Rattle.inode_machine.specs.Rules.{Asks, EntryOut, Found, Has, HasLast, HasType, Held, Honest, HonestClaim, HonestPiece, Idle, Inv, IsAlone, IsName, IsOpening, IsOut, IsReached, IsReferredTo, IsText, IsTied, KeepsFiles, Lends, LocksNone, MayWait, Opens, Others, Own, References, Rests, FileTables, Sought, Spares, Stands, StandsAt, asked_limit, id_at, if_kept, is_hart, key_in, left_or, looking_cost, machine, more, nothing, number_is, own_names, own_of, reference_limit, file_tables_of, users, uses, view}
pub use Rattle.tree_laws.proofs.Maps.{and_true, any_at, any_none, either, eq_is, eq_isnt, eq_not, eq_self, none_any, or_left, or_none, or_right, put_other, put_same, same_or}
pub use Rattle.inode_machine.specs.Inodes.{AtEntries, AtName, AtNothing, Face, OfDevice, OfDirectory, OfFile, Query, Sight, InodeType, face_of, face_or, is_directory_face, is_directory_type, is_empty_kind, is_empty_node, is_file_type, is_live_face, no_driver_for, open_refusal, seen_in, type_of, type_of_kind, stat_of_face}
pub use Rattle.inode_machine.specs.Marks.{Made, act_entered, act_left, acts, begun, found_by, go, look_made, looked, made_by, marked, mended, new_id, own_made, places, refused_all, spoiled, unheld, unmoved, unopened, with_made, with_mark}
pub use Rattle.inode_machine.specs.Exec.{blank, changed_record, child_of, claim_if, claimed, close_at, close_if, close_last, close_less, counted_down, counted_up, double_at, double_if, doubled, down_if, enter_if, enter_in, entry_at, entry_moved, entry_of, file_count, fill_if, given_of, handed, has_place, install_if, installed, is_at, is_dead, is_empty_slot, is_free, is_full_directory, is_last, is_nothing, join_at, lend_if, lend_last, lock_at, lock_if, locked, mode_refusal, more_users, moved_in, next_used, offset_of, opening_id, or_zero, part_of, place_count, read_at, read_refused, referenced, released, reserved, serving, slot_at, slot_if, slot_or, start_if, start_number, stat_at, unlocked, up_if, walk_down_if, with_bytes, with_count, with_directory, with_dots, with_entry, with_joined, with_lent, with_no_bytes, with_offset, with_refs, with_walk, without_entry, write_at, write_if, write_refused}
unfoldable pub use Rattle.inode_machine.specs.Exec.{all_used, first_from}
pub use Rattle.inode_machine.specs.Theory.{CallsAreExplained, HasOneOpen, NotCovered, PathTooLong, Refusal, StaysInOrder, TooLong, WorldsStayInOrder, ZeroInPath, are_bytes, at_rest, begin_call, begin_if, begin_inherit, calls_that, covered_calls, descriptor_calls, first_wrong, has_descriptor, has_zero, is_covered, on_descriptors, only_if, open_at_rest, path_limit, path_wrong, serving_world}
pub use Rattle.inode_machine.specs.Parts.{NoMemory, NotThere, P as ThisP, WalkStop, begins_unless_full, done, drop, failed, free_all, free_listed, full, give_up, is_some, is_there, leave_directory, looks_if, looks_or_quits, looks_where, makes, mends_if_full, own_step, quits_unless, say, see_parent, start, start_on, stopped, tail, walk, walk_parent, walk_step, with_last}
pub use Rattle.tree_laws.proofs.Sums.{one_no, one_yes, sum_changed, sum_none, sum_part, sum_same, sum_two}
pub use Rattle.tree_laws.proofs.Walks.{look_bad, look_in, look_same}
pub use Rattle.tree_laws.proofs.Facts.{entry_apart, entry_found, folder_linked, look_folder, look_live}
pub use Rattle.plain_tree.proofs.Settling.{NamesLess, file_settled, named_less, settle_again, settle_alive, settle_dead, settle_less, settle_live, settle_named, settle_nodes, settle_or, settled_row, with_open}
pub use Rattle.inode_machine.specs.World.Op.{CheckFile, Claim, Clear, Double, Down, Empty, Enter, Fill, Forget, Free, UnlockInode, Install, Join, JoinFile, Leave, Lend, LendDirectory, LockFile, LockOpen, ReadFile, Release, Say, SetDirectory, Shut, Slot, StatFile, Store, Take, Up, UpStart, WalkDown, WriteFile}
pub use Rattle.inode_machine.specs.Opening.{create_found, create_in, empties, entered_file, file_for, installed_on, installs, make_on, make_other, make_with, mends_unless_new, open_at, open_end, open_face, open_made, open_new, open_old, open_program, opened_reply, take_descriptor, truncates, unmake}
pub use Rattle.inode_machine.specs.Programs.{limit, path_cost, piece_cost, program, rest_cost}
pub use Rattle.inode_machine.specs.World.Mark.{Fills, Frees, Makes, Mends, Orphans, Spoils}
pub use Rattle.plain_tree.proofs.SettledSteps.{settled_makes}
pub use Rattle.tree_laws.proofs.Kept.{absent_slot, effect_well, written_dir, type_written}
pub use Rattle.inode_machine.specs.MoveCalls.{Alone, HasOneHistory, IsMoving, IsOfRange, IsPlayedSoFar, MoveMachine, NoneClimbs, RunsFrom, StartsBy, TakesMove, climbs_at, machine_of, shown_by, shows, theory_of}
pub use Rattle.tree_laws.proofs.Nodes.{cwd_named, dead_links, file_named, folder_dead, folders_put, hold_named, linked_live, live_is, live_some, map_put, no_node, put_self, settle_at, settled_well}
pub use Rattle.atomic_programs.proofs.Beginnings.{append_nil, oldest_first_more, onto_is}
pub use Rattle.inode_machine.specs.Examples.{ChdirFinishes, CloseFinishes, CreateFinishes, DupFinishes, InheritFinishes, InheritFrees, InheritMoves, LinkBelowNothing, LinkFinishes, LinkOfDirectory, LinkOfMany, LinkOfNothing, LinkToNoName, LinkToTaken, LongNamesAreTold, MkdirFinishes, NoBlockForDirectory, NoBlockForFile, NoBlockForName, NoBlockForPart, NoBlockLeft, NoDescriptorToDouble, NoDescriptorToOpen, NoInodeForFile, NoInodeLeft, NoSlotForDirectory, NoSlotForFile, NoSlotForName, OpenFinishes, ReadFinishes, StartsRefused, StatFinishes, UnlinkFinishes, WalkerFails, WriteFinishes, replies}
unfoldable pub use Rattle.inode_machine.specs.Examples.{doubled_to, doubles, steps}
pub use Rattle.inode_machine.specs.Naming.{always, bump_refused, bumps_if, clear_name, enters, in_parent, is_missing, is_refused, link_at, link_found, link_in, link_name, link_program, link_raise, lower, lower_parent, mkdir_in, mkdir_on, mkdir_other, mkdir_program, mkdir_refused, mkdir_with, name_directory, named_on, or_missing, unlink_child, unlink_dots, unlink_found, unlink_in, unlink_named, unlink_other, unlink_program}
pub use Rattle.plain_tree.proofs.RowLemmas.{Behind, behind, key_from}
pub use Rattle.std.proofs.lemmas.List.{append-nil, length-take}
pub use Rattle.tree_laws.proofs.Formed.{not_raised, well_content, well_file, well_same}
pub use Rattle.tree_laws.proofs.Opened.{well_chdir, well_closed, well_dup, well_hold, well_inherit, well_moved, well_opened}
pub use Rattle.atomic_programs.proofs.Explains.{Keeps, changed_tells, explains, holds_of, inv_of, sound_keeps}
pub use Rattle.atomic_programs.proofs.Leading.{leads}
pub use Rattle.atomic_programs.proofs.Reached.{sound_fresh, sound_run}
pub use Rattle.inode_machine.specs.Descriptors.{close_on, close_program, dup_on, dup_program, dups, joined_on, read_on, read_program, read_reply, refused_read, refused_to, stat_on, stat_program, stat_reply, write_from, write_piece, write_program, write_reply, writes, wrote_on}
pub use Rattle.inode_machine.specs.Histories.{CallsHaveOneHistory, OneHartHasOneHistory, Runs, covered}
pub use Rattle.inode_machine.specs.Moving.{chdir_at, chdir_program, inherit_end, inherit_program, lend_from, lend_on, lends, lent_directory}
pub use Rattle.tree_laws.proofs.Appended.{runs_more, runs_none}
pub use Rattle.tree_laws.proofs.History.{Apart, IsHart, NeverClimbs, apart_alone, apart_calm, opened_ok, run_explained, run_ok, starts_alone, starts_calm}
unfoldable pub use Rattle.tree_laws.proofs.History.{AllMayStart}
pub use Rattle.tree_laws.proofs.Told.{event_tells, played_end, played_next, told_more}
pub use Rattle.inode_machine.specs.Budget.{HasRoom}
pub use Rattle.inode_machine.specs.Kept.{IsTheHistory, history_of, kept, kept_by, kept_on, nothing_yet, placed, placed_prog, placed_run, placed_tried, placed_unless, told_of}
pub use Rattle.inode_machine.specs.Shortages.{ChangesNothing, NoOpenFileForNew, NoOpenFileLeft, NoPlaceLeft, all_open, all_placed, opens_more, opens_no_more, overview, places_more, places_no_more}
unfoldable pub use Rattle.inode_machine.specs.Shortages.{each, opened_by, opened_for, opens_by, opens_for}
pub use Rattle.inode_machine.specs.Stories.{ClimbsAcross, LinksWhileUnlinked, OffsetIsShared, RaiseIsSeen, StaysInTheRemoved, WalkFails, WalkFailsStill}
pub use Rattle.plain_tree.proofs.MarkLemmas.{same_is}
pub use Rattle.plain_tree.specs.Calls.{counted}
pub use Rattle.plain_tree.specs.Steps.{part_refusal}
pub use Rattle.plain_tree.specs.Widths.{largest_size}
pub use Rattle.plain_tree.specs.declared.answer.Cause.TheVariants.{BadDescriptor, BadMode, BadOffset, DotName, IsDirectory, NoEntry, NotDirectory, TooBig, TooManyLinks}
pub use Rattle.std.proofs.Common.{IsSome, length-append}
pub use Rattle.std.proofs.Math.Nat.{le-div_iff_mul-le}
pub use Rattle.std.proofs.Math.Numerals.{add-one}
pub use Rattle.tree_laws.proofs.Cut.{grows}
pub use Rattle.tree_laws.proofs.Placed.{can_go}
pub use Rattle.plain_tree.specs.declared.answer.Cause.{Cause}
pub use Rattle.plain_tree.specs.declared.answer.Full.TheVariants.{Descriptors}
pub use Rattle.plain_tree.specs.declared.answer.Reply.{Reply}
pub use Rattle.plain_tree.specs.declared.call.Call.{Call}
pub use Rattle.plain_tree.specs.declared.node.NodeKind.{NodeKind}
pub use Rattle.plain_tree.specs.declared.node.NodeKind.TheVariants.{Device, Directory, File}
pub use Rattle.plain_tree.specs.declared.node.Node.{Node}
pub use Rattle.plain_tree.specs.declared.step.Action.{Action}
pub use Rattle.plain_tree.specs.declared.step.Action.TheVariants.{Bump, Chdir, Close, Dup, Enter as EnterStep, Find, Fstat, Inherit, Mkdir, Open, Read, Truncate, Unbump, Unlink, WritePart}
pub use Rattle.plain_tree.specs.declared.step.StepAnswer.{StepAnswer}
pub use Rattle.plain_tree.specs.declared.step.StepAnswer.TheVariants.{Bytes, Done, Failed, Fd as NewFd, Full as NoRoom, Opened, Stat as Status}
pub use Rattle.plain_tree.specs.declared.trace.Placed.{Placed}
pub use Rattle.plain_tree.specs.declared.tree.Hold.{Hold}
pub use Rattle.plain_tree.specs.declared.tree.OpenFile.{OpenFile}
pub use Rattle.plain_tree.specs.Steps.{content, part, stat_of, write_kind}
pub use Rattle.image_versions.specs.Versions.{name_len_of}
pub use Rattle.plain_tree.proofs.SettledSteps.{settled_step}
pub use Rattle.inode_machine.specs.Rules.{clear_cost, emptying_cost, enter_cost, look_cost, search_cost}

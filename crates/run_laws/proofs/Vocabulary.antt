-- What this crate's proofs speak of: its own definitions, and what the crates below and the library call things.
pub use Rattle.calls_on_blocks.proofs.Vocabulary.{ActOf, ActsOnceAt, ActsWithin, After, AgreeOutside, All, AllHonest, AllLift, Answer as AnswerBelow, AreEventsOn, AtEntries, AtName, AtNothing, AtomicWithin, Began, Begins, Begun, Below, Bool, Both, Budget, Clear, Desk, ExecResult, DidEnd, Do, Empty, Ends, Enter, Entry, Event as EventOf, Explains, Fails, Fill, Forget, Frees, Get, Goings, UnlockInode, Goes, Good, Handlers, HasInodes, HasSpent, HonestStep, Idle, Install, Inv, IsBytes, IsHart, IsHonest, IsMade, IsMarked, IsMountable, IsMoving, IsNamedPart, IsRecoveredSo, IsStarted, Join, JoinFile, JoinResult, JoinToWrite, Joined, Labels, Lawful, Leave, Lend, LendDirectory, List, LocksIt, LogPart, LowerLaws, MoveMachine, MoveStep, Moved, Name, NeverClimbs, None, NotCovered, NotJoined, Nothing, OfNext, Op, OpWithAnswer, Option, Orphans, Other, Outside, P, PartOf, Passes, ProgramsSpend, Put, Query, Ran, Read, ReadFile, Refusal, Refuses, Release, Reserves, Ret, Run, RunsFrom, RunsOn, Say, SeatState, SetDirectory, Short, Shown, ShowsItsTree, Shut, Sight, Slot, Some, Some-inj, InodeType, Sound, Spends, Stage, Start, StartsBoth, StatFile, State, Step, Steps, Stopped as Refused, Stops, Store, TablesState, Take, Theory, Told, TooLong, Tree, TreeData, Turn, UpStart, Uses, Waits, WalkDown, Whole, World, Wp, WriteFile, WriteResult as Wrote, [], acts_within, add-one, affords, all_told, and_true, ap, apart_alone, apart_calm, append_assoc, are_bytes, arith, asked_limit, asks, asks_wrong, began_to, begin_call, beginning, begins, begun, begun_both, begun_same, below, block_calls, block_code, block_moves, both, both_paths, busy_in, came_to, changed_record, changed_same, check_acts, child_of, claim_first, claim_if, claim_within, claimed, claims, clear_within, close_acts, close_at, close_if, commit_if, creates, descriptor_count, exec_result_in, dot, dotdot, double_acts, double_at, double_if, down_acts, down_if, drop_which, elements, empty_within, enter_if, enter_within, entry_at, entry_of, eq_is, eq_isnt, eq_self, exec_blocks, face_or, failed, false, file_acts, file_count, file_named, fill_within, first, first_free, first_world, forget_acts, free_within, fresh, full, get_or, give_acts, go, got_by, handlers, hart_count, hart_of, has_place, has_room, if◌then◌else◌, in_log, in_parent, in_tables, inherit_begins, inl, inr, install_acts, install_if, inv_of, is_at, is_covered, is_empty_slot, is_full_directory, is_last, is_nothing, is_served, is_some, is_taken, join_acts, join_at, join_file_acts, join_if, join_unless, join_waits, joined as joined_count, joined_on, joins, laws, layer, leave_acts, lend_acts, lend_directory_acts, lend_if, lend_last, length, length-drop, length-take, lift_within, lifted_lawful, limit, limit_of, loaded, lock_at, lock_if, lock_open, log_at, log_of, machine, makes, map, marks as writes, marks_after, marks_at, marks_next, mounts_show_their_trees, moved, nat_lt, nat_tests, next, next_used, no_marks, node_or, none_any, none_spent, not, nothing, onto, open_acts, open_new, open_old, opened, opened_ok, option_map, or_none, own_step, piece, piece_count, piece_len, place_count, place_with, placed_at, placed_with, places, program, programs_spend, put_other, put_same, quiet_worlds_are_images, ran_to, read_acts, read_at, read_block, read_refused, recorded_blocks, referenced, refl, refusal_of, refused_to, release_acts, run, run-append, run_explained, run_ok, runs_more, runs_none, same_Some, same_or, say, say_acts, seen_after, seen_of, served_calls, serves, serving, serving_world, settle_acts, shared_of, shown_by, shown_of, shows, slice_get_within, slice_set, slot_acts, slot_at, slot_if, sound_fresh, sound_keeps, sound_run, start_if, start_is, start_number, start_run, stat_acts, stat_at, step_prog, step_run, step_unless, store_within, subst, suc, sym, take, take_acts, take_all, take_more, theory_of, trace_of, transactions_are_small, tree_in, tree_of, tried, true, turn_is_out, unlocked, unmarked, unspent, up_acts, up_if, up_start_acts, up_whom, walk_down_acts, walk_down_if, with_bytes, with_lent, with_mark, with_offset, write_at, write_from, write_if, write_kind, write_piece, write_program, write_refused, write_reply, write_within, wrote_on, zero, ℕ, ◌&&◌, ◌*◌, ◌++◌, ◌+◌, ◌-◌, ◌/◌, ◌<◌, ◌==◌, ◌||◌, ◌∙◌, ◌∷◌, ◌≡◌, ◌≢◌, ◌≤◌, ◌⊎◌, act_places}
unfoldable pub use Rattle.calls_on_blocks.proofs.Vocabulary.{AllMayStart, Rises, RisesBy, double_descriptor, first_from, get_of, give_next, lock_file, lock_inode, open_file, put, same_name, settle_inode, shut_descriptor, sizes_of, take_place, up_inode}
pub use Rattle.inodes_on_blocks.proofs.Vocabulary.{Accounts, Acts, Affords, Aim, All-cons, All-head, All-nil, All-tail, Apart, Carry, CheckFile, Claim, ClaimResult as ClaimedState, Claims, Double, Down, Emptied, FilledMemory, Fills, Finds, FirstIs, Had, Handover, Has, Held, HonestPiece, IsMember, IsSome, IsSpent, Lasts, Laws, LockOpen, LockedState, Locks, LowerLayer, Machine, Makes, Mark, Mends, Named, NoInode, NoMore, NoPlace as HasNoPlace, NothingMore, Opened, Own, OwnMove, Prog, Spent, Spoils, Unused, Up, Walk, Wp-more, Wp-weaker, WriteResult, acts, address, after_leave, all_slots, at_rest, bind, bit_of, block_count, block_len, blocks_between, cases_lt, claim_at, claim_in, clear, clear_bit, clear_in, clear_slot, commit_unless, commits, cond, count_by, counted_down, counted_up, dinode_at, direct, dirent_at, dots, either, empty, end_of, enter, entered_to, entry_moved, eqb-false, eqb-true, face_of, fetch, fetch_at, fetch_block, fetch_named, fetch_number, file_locked, fill, filled_to, filled_with, filter, first_is, free_block, free_in, free_in_table, free_indirect, free_numbers, free_table, freed, front_of, give_back, give_content, give_fetched, give_read, give_written, give_zeros, grown, has, holding, if_kept, if_none, inode_block, inode_blocks, inodes_per_block, is_directory_of, is_file_of, is_free_in, is_joined, is_none, is_unreferenced, join, join_file, joined, kind_of, labelled, learned, leave, leaves_own, length-append, length-map, length-replicate, live_directory, load_unless, locate, locate_at, locate_in_table, located, locked, look_at, look_last, look_live, look_up, looked, lookup, lowest, made_by, marked, marked_by, members_with, mended, min, more, most_writes, moved_in, name_direct, name_in_table, new_id, next_block, none_between, number_found, number_is, numbers_in, offset_of, one_more, one_no, or_next, owed, own, own_of, part_of, pick, place_of as place_in_memory, pos, put_grown, put_inode, put_named, put_part, put_record, read_file, read_from, read_part, read_unless, record_in, recorded_in, references_of, refused_in, released, replicate, search, search_entries, seen_record, size, slice_get, slice_index, slot_count, slot_for, slot_found, some_between, type_of, spell_dirent, spent_after, spoiled, stat_file, stat_loaded, stat_locked, store_inode as store, store_written, sum_by-cons, sum_same, table_of, take-append-drop, take-take, take_first, take_inode, take_one, used, view, with_address, with_bitmap, with_block, with_contents, with_inode as with_record, with_left, with_made, with_noted, with_opened, with_slot, with_table, without_content, write_file, write_in, write_located, write_unless, wrote_in, zero_found, ⊎_elim, ◌%◌}
unfoldable pub use Rattle.inodes_on_blocks.proofs.Vocabulary.{all_used, any_below, claim_from, first_clear_below, first_slot, found_in, free_among, look, lowest_from, one_if, read_blocks, search_from, search_full, sum_below, write_blocks}
pub use Rattle.hart_core.proofs.Vocabulary.{AllAnswer, EventOutcome, Code, DidRun, DidStop, DidWait, HartsOf, Holds, IsExplained, IsHistory, Made, NoneClimbs, OneHart, OutcomeOf, Plain, PlainMade, Refused as WasRefused, Rests, Running, Started, WasIdle, WasStopped, WorldOf, all_asked, all_by_kind, all_shown, asked, before, begun_here, by_kind, call_climbs, calls_of, changed, disk_after, ends_at, erase, erase-makes, erase-outcomes, erase-run, events_of, first_sound, has_zero, honest_event, is_called, is_code, is_empty, is_nothing as no_fd, lawful, nat_eq, next_now, no_calls, outcomes, outcomes_of, path_limit, path_wrong, plain_outcomes, plain_run, program_at, shown, sound_explained, told, trace_in, unchanged}
unfoldable pub use Rattle.hart_core.proofs.Vocabulary.{pieces, running_of, trace_from}
pub use Rattle.inode_machine.proofs.Vocabulary.{Answer, ClaimResult, EntryResult, Free, Grown, HasRoom, History, Honest, HonestClaim, InPlace, IsBeginning, IsWellFormed, Keeps, LockFile, MayWait, Mine, New, NoPlace, Others, PathTooLong, Picks, Room, RoomFor, ZeroInPath, append_nil, changed_tells, explains, fill_if, is_live, kept_by, nothing_yet, oldest_first, or_zero, told_of, with_refs}
pub use Rattle.inode_machine.specs.Kept.{IsTheHistory, history_of, kept, kept_on}
pub use Rattle.inode_machine.specs.Programs.{path_cost}
pub use Rattle.inode_machine.specs.Inodes.{seen_in}
pub use Rattle.run_laws.specs.Vocabulary.{BeginsWhole, Chain, FinishedCall, In, IsOfCall, May, PlacedStep, Shows, Version, history, is_zero, lowered_calls, place_of, name_len_of, slot_limit, steps_of, version_in, or_else}
pub use Rattle.image_versions.specs.Versions.{dirent_len_of, dirents_per_block_of, new_directory_size_of}
pub use Rattle.atomic_programs.proofs.Vocabulary.{BeginsSome, EventReport, IsTraced, Starts, eq-eqb, happened, lowered, ltb-true, ne_eqb, placed, start_of}
pub use Rattle.directory.proofs.Vocabulary.{first_below, found_at, is_free, length-take-le, length-u16_bytes, slots_in}
pub use Rattle.image_tree.proofs.Vocabulary.{filter-append, ◌↔◌}
pub use Rattle.tree_laws.proofs.Vocabulary.{append-nil, noted}
pub use Rattle.run_laws.specs.WholeInodes.{HasWanted, IsRunOf, IsRunOfCall, IsStep, Operation, inode_calls, lowered_inode_calls, on_the_way, operations, told_by, unreserved, unreserved_desk, whole_inodes}
pub use Rattle.hart_core.proofs.Resting.{mountable, rests_erased}
pub use Rattle.call_programs.specs.Wanted.{wanted, wanted_to_claim, wanted_to_double, wanted_to_enter, wanted_to_write, wanted_unless, wanted_without}
pub use Rattle.calls_on_blocks.proofs.History.{first_holds, first_idle, moving, runs_from}
pub use Rattle.inode_machine.specs.Exec.{with_found}
pub use Rattle.inode_machine.specs.Exec.{exec}
pub use Rattle.run_laws.specs.Changes.{Change, ChangesAreTold, Claimed, Cleared, Entered, Filled, Freed, GaveBack, HasNoName, HasWritten, ShortWritesAreShort, Sighting, TookPlace, WritesAreMade, by_count, by_free, by_write, changed_by, changes_after, changes_of, seen_by}
pub use Rattle.calls_on_blocks.proofs.Lawful.{served_is, served_lawful}
pub use Rattle.hart_core.proofs.Histories.{all_honest, long_history, one_each, shown_is, started}
pub use Rattle.run_laws.specs.Faithful.{AreOf, AreOfFinished, CallsGoOnAsTheyActed, EndsWith, GoOnAsTheyActed, IsFaithful, IsOperation, IsUnderWay, Notes, StepNote, entries_of, noted_inode_calls, stepwise, with_entries, with_steps}
pub use Rattle.run_laws.specs.Laws.{BeginsRun, IsRunFrom, RefinesWholeInodes, RunsRefineWholeInodes, operations_made, operations_of}
pub use Rattle.run_laws.specs.Transactions.{AreAtMostTen, JoinAndLeaveInTheLog, RecordAtMostTen, RecordInTransactions, TransactionsRecordAtMostTen, after_join, recorded_after, recorded_from, recorded_with}
pub use Rattle.atomic_programs.proofs.Noted.{Alone}
pub use Rattle.atomic_programs.proofs.Operations.{onto_rest, own_one}
pub use Rattle.calls_on_blocks.proofs.Starting.{BeginsHere, below_count, joined_same, lower_laws, starts_both}
pub use Rattle.directory.specs.Programs.{Searched, is_directory, is_live_directory, most_slots}
pub use Rattle.directory.specs.Indexes.{cleared, first_gap, free_below, index_room, raised as index_raised, slots_known, with_entry}
unfoldable pub use Rattle.directory.specs.Indexes.{first_of}
pub use Rattle.fs_machine.specs.InMemory.{IndexState, Loaded, no_index}
pub use Rattle.hart_core.proofs.Calming.{AllStarted}
pub use Rattle.inode_data.specs.Writing.{write_part}
pub use Rattle.inode_machine.specs.Descriptors.{checked_reply}
pub use Rattle.inodes_on_blocks.specs.Entering.{enter_in, seek_free, seek_full}
pub use Rattle.inodes_on_blocks.specs.Storing.{index_in, loaded_in, with_index}
pub use Rattle.run_laws.specs.Searches.{AnsweredStep, ClaimsFindReferences, ComesTo, HasRead, NameFits, SawInUse, SawNoBlock, SawNoInode, SawNone, SearchesSeeAll}
pub use Rattle.run_laws.specs.Standing.{CallsWithoutRoomTakeBack, LeavesThat, Stands}
pub use Rattle.run_laws.specs.Worlds.{IsRun, RunsTo, WorldsRefineWholeInodes}
pub use Rattle.tree_laws.proofs.Maps.{put_is}
pub use Rattle.atomic_programs.proofs.Explains.{Keeps-fresh, Keeps-next, changed_other, ends_last}
pub use Rattle.atomic_programs.proofs.Sound.{Wp-bind, Wp-others}
pub use Rattle.calls_on_blocks.specs.Stops.{state_after}
pub use Rattle.inode_machine.proofs.Kept.{Beside, clean_before, event_turns, history_grows}
pub use Rattle.inodes_on_blocks.proofs.ReadParts.{many_between, none_there}
pub use Rattle.inodes_on_blocks.proofs.SpentRoom.{record_spent}
pub use Rattle.inodes_on_blocks.specs.Naming.{slot_of}
pub use Rattle.inode_machine.specs.Rooms.{says_no_room}
pub use Rattle.run_laws.specs.Rooms.{RoomIsToldByAnswers, finds_no_room}
pub use Rattle.run_laws.specs.Seen.{AreItsOwn, CallsLookEverywhere, IsInUse, IsReferredTo, MadeStep, SeesNoBlock, SeesNoInode, answered, if_ran, step_of_call, step_of_event, step_of_program, steps_made}
pub use Rattle.run_laws.specs.StepBounds.{AreFew, CallsTakeFewSteps, RunsTakeFewSteps, most_steps}
pub use Rattle.run_laws.specs.Steps.{OfBegun, OfEachCall, steps_ran, with_outcome}
pub use Rattle.atomic_programs.proofs.Beginnings.{whole_begins}
pub use Rattle.atomic_programs.proofs.Tracing.{traced}
pub use Rattle.calls_on_blocks.proofs.Following.{Followed, event_of, followed_on}
pub use Rattle.calls_on_blocks.proofs.Lenders.{acts_reserve}
pub use Rattle.calls_on_blocks.proofs.Moves.{itself, log_in}
pub use Rattle.calls_on_blocks.proofs.Operations.{keeps}
pub use Rattle.calls_on_blocks.proofs.Stops.{first_followed, first_image, first_state, itself_stored, next_same, quiet_stored, stored_respects}
pub use Rattle.hart_core.proofs.Stepping.{nones}
pub use Rattle.hart_core.proofs.Storing.{honest_run}
pub use Rattle.inode_data.specs.Widths.{most_blocks}
pub use Rattle.inode_machine.proofs.Openings.{first_some}
pub use Rattle.inode_machine.specs.Rules.{Writes}
pub use Rattle.inodes_on_blocks.proofs.Accounts.{other_put, spent_put}
pub use Rattle.inodes_on_blocks.proofs.Groups.{has_last, has_members, member_at, put_grows}
pub use Rattle.inodes_on_blocks.proofs.Spends.{bitmap_no_more, record_no_more}
pub use Rattle.inodes_on_blocks.specs.Emptying.{free}
pub use Rattle.inodes_on_blocks.specs.Files.{with_file}
pub use Rattle.run_laws.specs.ActsAt.{IsAtEnd, MarksLast, MarksNone, MarksOne, OperationsActFirstOrLast, ActsAt, MarksFirst}
pub use Rattle.run_laws.specs.Answered.{CallsFindNoneWhereThereIsNone, IsAnsweredRightly}
pub use Rattle.run_laws.specs.Idle.{CountsReferences, HasBegunNothing, IdleHartsAreThrough, IdleHartsHaveBegunNothing, NothingIsLeft}
pub use Rattle.run_laws.specs.OneList.{AgreesWithTheList, RunsHaveOneList}
pub use Rattle.run_laws.specs.Wants.{AllDescriptorsAreTaken, AllOpenFilesAreTaken, AllPlacesAreTaken, HasNone, IsFullDirectory, IsTaken, LeadsThroughWants, NoRoomOnlyWhereThereIsNone, WantsWhatIsnt}
pub use Rattle.std.proofs.Common.{div-mul-le_self, find}
pub use Rattle.std.proofs.lemmas.Bool.{ltb-false}
pub use Rattle.buffer_cache.specs.declared.got.Got.{Got}
pub use Rattle.directory.specs.declared.found.Found.{Found}
pub use Rattle.fs_layout.specs.declared.entry.Dirent.TheVariants.{Used}
pub use Rattle.fs_layout.specs.declared.inode.Dinode.{Dinode}
pub use Rattle.fs_layout.specs.declared.superblock.Super.{Super}
pub use Rattle.fs_machine.specs.declared.files.FilePlace.{FilePlace}
pub use Rattle.fs_machine.specs.declared.files.FilePlace.TheVariants.{Taken}
pub use Rattle.fs_machine.specs.declared.files.Refused.{Refused as RefusedState}
pub use Rattle.group_log.specs.declared.log.AfterLeave.{AfterLeave}
pub use Rattle.group_log.specs.declared.log.AfterLeave.TheVariants.{Commits}
pub use Rattle.group_log.specs.declared.marks.Marks.{Marks}
pub use Rattle.group_log.specs.declared.phase.Phase.TheVariants.{Open}
pub use Rattle.hart_core.specs.declared.events.Event.{Event}
pub use Rattle.inode_data.specs.declared.addresses.Address.{Address}
pub use Rattle.inode_data.specs.declared.addresses.Address.TheVariants.{Direct, InTable}
pub use Rattle.inode_data.specs.declared.locate.Located.{Located}
pub use Rattle.plain_tree.specs.declared.answer.Cause.{Cause}
pub use Rattle.plain_tree.specs.declared.answer.Cause.TheVariants.{BadDescriptor}
pub use Rattle.plain_tree.specs.declared.answer.Full.{Full}
pub use Rattle.plain_tree.specs.declared.answer.Full.TheVariants.{Blocks, Descriptors, Directory, DiskInodes, MemInodes, OpenFiles}
pub use Rattle.plain_tree.specs.declared.answer.Reply.{Reply}
pub use Rattle.plain_tree.specs.declared.call.Call.{Call}
pub use Rattle.plain_tree.specs.declared.node.Node.{Node}
pub use Rattle.plain_tree.specs.declared.node.Slot.{Slot as DirectorySlot}
pub use Rattle.plain_tree.specs.declared.step.Action.{Action}
pub use Rattle.plain_tree.specs.declared.step.Action.TheVariants.{Bump}
pub use Rattle.plain_tree.specs.declared.step.StepAnswer.TheVariants.{Done}
pub use Rattle.plain_tree.specs.declared.trace.Placed.{Placed}
pub use Rattle.plain_tree.specs.declared.trace.Trace.{Trace}
pub use Rattle.plain_tree.specs.declared.trace.TracedCall.{TracedCall}
pub use Rattle.plain_tree.specs.declared.tree.OpenFile.{OpenFile}
pub use Rattle.run_laws.specs.UnderWay.{ActingTime, ActsThen, EndsAsActed, EventDoes, Fits, GoesOnAsItActs, HasActed, InFirst, InLast, InOne, IsInOperation, IsMadeBy, LeadTo, MovesAreMadeAsOperationsAct, RunsAStep, SeesTruly, StepDoes, UnderWay, at_beginning, call_outcome, gone_on, is_at_end, none_ran, placed_by, step_outcome, time_of}

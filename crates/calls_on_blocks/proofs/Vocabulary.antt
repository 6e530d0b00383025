-- What this crate's proofs speak of: its own definitions, and what the crates below and the library call things.
pub use Rattle.inodes_on_blocks.proofs.Vocabulary.{ActOf, ActsOnceAt, ActsWithin, After, All, AllByRecursion, AllPairs, AtEntries, AtName, AtNothing, Below, Bool, Both, Clear, Commit, Desk, DesksShow, ExecResult, Do, Empty, Enter, Entry, Face, Fails, Fill, Forget, Frees, Get, UnlockInode, Goes, Good, HasGoodLog, HasInodes, HasSpent, Idle, Install, Inv, IsBytes, IsGoodSuper, IsHome, IsMade, IsMountable, IsNamedPart, IsOutsideLog, IsRecoveredSo, IsWellFormed, IsWholeLog, Join, JoinFile, JoinResult, Joined, Keeps, Labels, Leave, Lend, LendDirectory, List, LoanResult, Lock, LockFile, LockResult, LocksIt, LogPart, LowerLaws, Machine, Moved, Name, None, NotJoined, NotLocked, Option, Orphans, Outside, P as PartOf, Passes, ProgramsSpend, Put, Query, Ran, Read, ReadFile, Release, Ret, Say, SeatState, SetDirectory, Short, Shows, Shut, Sight, Some, InodeType, Spends, StatFile, Stopped, Stops, Store, TablesState, Take, Tree, TreeData, UpStart, UpToLog, Waits, WalkDown, Whole, World as Blocks, Wp, WriteFile, Wrote as WriteResult, [], act_places, and_true, any_none, any_same, ap, append-nil, append_assoc, arith, below, block_at, both, came_to, claim_first, claimed, claims, close_at, close_if, commit_if, commits_after, creates, descriptor, descriptor_count, exec_result_in, dot, dotdot, double_if, down_if, drop_which, elements, enter_if, entry_at, eq_is, eq_isnt, eq_self, exec as exec_blocks, face_or, false, file_count, file_named, file_of, first_free, first_world, get_or, get_or_from_slice_get, got_by, group_in, hart_count, has_place, has_room, if◌then◌else◌, in_log, in_tables, inl, inr, install_if, is_at, is_empty_slot, is_full_directory, is_last, is_nothing, is_open, is_some, is_taken, join_at, join_if, join_unless, join_waits, joined_count as joined, joins, keeps_whole, left_at, lend_if, lend_last, length, length-drop, length-set, lent_by, limit_of, loaded, lock_at, lock_if, lock_opened as lock_open, log_of, map, nat_lt, nat_tests, next_phase, next_used, node_or, none-some, none_any, not, nothing, onto, open_of, option_map, phase_at_leave, place_count, place_with, placed_at, placed_with, put_block, put_elim, put_other, put_same, put_shows, ran_to, read_at, read_block, read_refused, recorded_blocks, recovered-empty, referenced, refl, refusal_of, same_Some, same_or, seats_after, seats_at_fault, seen_after, seen_in, serving, serving_none, settled_well, shows_its_puts, slice_get_within, slice_set, slot_at, slot_if, start_if, start_number, stat_at, subst, suc, sym, tables_of, take, take_all, tree_in, tree_of, true, turn_is_out, unlocked, unmarked, unspent, up_if, up_whom, walk_down_if, with_bytes, with_content, with_lent, with_mark, with_offset, with_seat, write_at, write_if, write_kind, write_refused, written, zero, ℕ, ◌&&◌, ◌*◌, ◌++◌, ◌+◌, ◌-◌, ◌/◌, ◌<◌, ◌==◌, ◌||◌, ◌∙◌, ◌∷◌, ◌≡◌, ◌≢◌, ◌≤◌, ◌⊎◌}
unfoldable pub use Rattle.inodes_on_blocks.proofs.Vocabulary.{double_descriptor, first_from, get_of, give_next, lock_file, lock_inode, logged, open_file, put, recovered, same_name, settle, settle_inode, shut_descriptor, sizes_of, take_place, up_inode}
pub use Rattle.inode_machine.proofs.Vocabulary.{AllHonest, Alone, Apart, Began, Begins, Begun, Ends, Event, HonestStep, IsHart, IsHonest, IsStartBy, Lawful, Laws, MoveMachine, NeverClimbs, NoneClimbs, NotCovered, Nothing, OfNext, OpWithAnswer, Refusal, Refuses, Run, Safe, Shown, Slot, Sound, Stage, Start, Starts, StartsBy, State, Step as MoveStep, StepOf as Step, Steps, Theory, ThisP as P, Told, TooLong, Turn, all_told, apart_alone, apart_calm, are_bytes, asked_limit, asks, begin_call, begin_if, begin_inherit, busy_in, changed_record, claim_if, climbing, climbs_at, double_at, entry_of, failed, fresh, full, has_descriptor, in_parent, inv_of, is_covered, joined_on, le-div_iff_mul-le, length-take, moved, next, open_new, opened, opened_ok, or_none, own_step, piece, piece_count, piece_len, read_on, read_reply, refused_to, run, run_explained, run_ok, runs_more, runs_none, say, serving_world, settle_again, shown_by, shown_of, sound_fresh, sound_keeps, sound_run, stage_of, start_run, step_prog, step_run, step_unless, trace_of, tried, write_from, write_piece, write_program, write_reply, writes as marks, wrote_on}
pub use Rattle.plain_tree.specs.Explains.{Explains, Chain}
pub use Rattle.tree_laws.specs.Runs.{Happens, Runs as Goings}
pub use Rattle.inode_machine.specs.MoveCalls.{IsMoving, RunsFrom, TakesMove, shows, theory_of}
pub use Rattle.inode_machine.specs.Marks.{go, places}
pub use Rattle.inode_machine.specs.Opening.{open_old, open_program}
pub use Rattle.inode_machine.specs.Programs.{limit, program}
pub use Rattle.inode_machine.specs.Rules.{machine}
unfoldable pub use Rattle.inode_machine.proofs.Vocabulary.{AllMayStart}
pub use Rattle.calls_on_blocks.specs.Vocabulary.{Answer, Busy, DidEnd, Ended, Failed, IsCode, IsMarked, IsSoundLog, Kind, Marks, NoSuchHart, NotEmptyHart, Op, Progress, Wrote, after_leave, after_write, asks_wrong, handlers, is_point, makes, no_marks, or_else, Version, version_in}
unfoldable pub use Rattle.calls_on_blocks.specs.Vocabulary.{exec}
pub use Rattle.group_log.proofs.Vocabulary.{AgreeOutside, IsCommitMove, IsKept, IsMarkedRun, IsMove, LogState, add-one, begins_at, is_running, is_settled, is_under_way, recovered_of, seen_of, write_of, write_to}
unfoldable pub use Rattle.group_log.proofs.Vocabulary.{RisesBy}
pub use Rattle.atomic_programs.proofs.Vocabulary.{AllLift, AtomicWithin, BeginsBoth, Budget, Handlers, IfRan, IsPart, StartsBoth, Uses, began_in, began_to, begun, hart_of}
pub use Rattle.plain_tree.proofs.Vocabulary.{take_more}
unfoldable pub use Rattle.plain_tree.proofs.Vocabulary.{Rises}
pub use Rattle.fs_machine.proofs.Vocabulary.{CheckFile, Claim, Close, Double, Down, JoinToWrite, LeavesIt, LeavesOne, LockOpen, MayPut, Reply as AnswerIt, TakeDescriptor, TakePlace, Unlock, Up}
unfoldable pub use Rattle.fs_machine.proofs.Vocabulary.{Honest, May}
pub use Rattle.calls_on_blocks.specs.Theory.{begin_in, begins, begun_by, block_calls, block_code, child_of, child_refusal, fault_of, has_file, if_hart, is_served, others_refusal, refusal_for, reserved, served_calls, serves, shared_part, start_refusal}
pub use Rattle.calls_on_blocks.specs.Marks.{at_point, log_at, marks_after, marks_asked, marks_by, marks_next, marks_told, marks_unless, noted, progress_of, told_between}
pub use Rattle.calls_on_blocks.specs.Layer.{Reserves, SharedState, World, layer, shared_of}
pub use Rattle.calls_on_blocks.specs.History.{MountsHaveOneHistory, OneHartHasOneHistory, RunsOn, block_moves, first}
pub use Rattle.inodes_on_blocks.proofs.Mounted.{mounts_show_their_trees}
pub use Rattle.atomic_programs.proofs.Lowered.{begun_both, is_code_part, lifted_lawful}
pub use Rattle.atomic_programs.proofs.Explains.{Some-inj, changed_same, may_make}
pub use Rattle.group_log.proofs.Moving.{commit_move, leave_facts, leave_move, never, open_move}
pub use Rattle.inode_machine.proofs.Calls.{IsRight, descriptors_right, lawful_that, laws, right}
pub use Rattle.inode_machine.proofs.Kept.{Beside, Turns, clean_before, event_turns, moves_alone, moves_history}
pub use Rattle.inode_machine.proofs.Starts.{begun_same, inherit_begins, start_is}
pub use Rattle.inodes_on_blocks.proofs.Desks.{part_same}
pub use Rattle.inodes_on_blocks.specs.Mounted.{ShowsItsTree}
pub use Rattle.tree_laws.proofs.History.{MayStart, happens_trace}
pub use Rattle.atomic_programs.proofs.Joined.{lift_within}
pub use Rattle.atomic_programs.proofs.Reached.{run-append}
pub use Rattle.atomic_programs.proofs.Steady.{steady}
pub use Rattle.atomic_programs.specs.Lifting.{IsStarted}
pub use Rattle.calls_on_blocks.specs.Heads.{LogsLeaveGoodHeads, LogsMayBegin}
pub use Rattle.calls_on_blocks.specs.Stops.{AreEventsOn, LeavesABeginning, MarksAreTold, OneHartLeavesABeginning, SizesStay, StopsLeaveABeginning, StopsLeaveImages, marks_at}
pub use Rattle.calls_on_blocks.specs.Whole.{BeganCommit, CutsHaveReplies, HasReplied, MarksPartNone, state_up_to}
pub use Rattle.group_log.proofs.Committed.{done_recovered, failed_recovered}
pub use Rattle.group_log.proofs.Marked.{cuts_have_replies}
pub use Rattle.group_log.proofs.Stories.{beginning, kept_leave, kept_plain, kept_write}
pub use Rattle.group_log.specs.Stories.{Does}
pub use Rattle.image_tree.proofs.Layouts.{length-logged}
pub use Rattle.call_programs.proofs.Budgets.{transactions_are_small}
pub use Rattle.inode_machine.proofs.ChdirCalls.{chdir_begins, chdir_ok}
pub use Rattle.inode_machine.proofs.CreateCalls.{create_ok}
pub use Rattle.inode_machine.proofs.Histories.{places_one}
pub use Rattle.inode_machine.proofs.InheritStarts.{inherit_right, started_rests}
pub use Rattle.inode_machine.proofs.LinkCalls.{link_begins, link_ok}
pub use Rattle.inode_machine.proofs.Mkdirs.{mkdir_begins, mkdir_ok}
pub use Rattle.inode_machine.proofs.Names.{AllNames, both_paths, path_names}
pub use Rattle.inode_machine.proofs.OpenCalls.{open_ok}
pub use Rattle.inode_machine.proofs.OpenEnds.{open_begins}
pub use Rattle.inode_machine.proofs.Unlinks.{unlink_begins, unlink_ok}
pub use Rattle.inode_machine.specs.Theory.{call_wrong, why_not}
pub use Rattle.image_versions.specs.Versions.{magic_of}
pub use Rattle.inode_machine.specs.World.Outside.{Picks, Room, RoomFor}
pub use Rattle.inodes_on_blocks.proofs.ClaimSteps.{claim_within}
pub use Rattle.inodes_on_blocks.proofs.CountSteps.{down_acts, up_acts, up_start_acts, walk_down_acts}
pub use Rattle.inodes_on_blocks.proofs.ForgetSteps.{forget_acts}
pub use Rattle.inodes_on_blocks.proofs.JoinFileSteps.{join_file_acts}
pub use Rattle.inodes_on_blocks.proofs.JoinSteps.{join_acts}
pub use Rattle.inodes_on_blocks.proofs.Layer.{below_laws}
pub use Rattle.inodes_on_blocks.proofs.LeaveSteps.{leave_acts}
pub use Rattle.inodes_on_blocks.proofs.LendSteps.{lend_acts, lend_directory_acts, release_acts}
pub use Rattle.inodes_on_blocks.proofs.LockSteps.{file_acts, open_acts}
pub use Rattle.inodes_on_blocks.proofs.Marked.{marked_same}
pub use Rattle.inodes_on_blocks.proofs.Named.{descriptors_name_files}
pub use Rattle.inodes_on_blocks.proofs.NamingWithins.{enter_within, fill_within}
pub use Rattle.inodes_on_blocks.proofs.Quiet.{nobody_joined}
pub use Rattle.inodes_on_blocks.proofs.QuietWorlds.{quiet_worlds_are_images}
pub use Rattle.inodes_on_blocks.proofs.ReadSteps.{read_acts}
pub use Rattle.inodes_on_blocks.proofs.Records.{drop_bytes, take_bytes}
pub use Rattle.inodes_on_blocks.proofs.SlotSteps.{check_acts, close_acts, double_acts, install_acts, say_acts, slot_acts}
pub use Rattle.inodes_on_blocks.proofs.Spends.{programs_spend}
pub use Rattle.inodes_on_blocks.proofs.StatSteps.{stat_acts}
pub use Rattle.inodes_on_blocks.proofs.TableSteps.{give_acts, settle_acts}
pub use Rattle.inodes_on_blocks.proofs.Tables.{shows_then}
pub use Rattle.inodes_on_blocks.proofs.TakeSteps.{take_acts}
pub use Rattle.inodes_on_blocks.proofs.Withins.{acts_within, affords, clear_within, empty_within, free_within, none_spent, store_within}
pub use Rattle.inodes_on_blocks.proofs.WriteSteps.{write_within}
pub use Rattle.plain_tree.specs.Explains.Shown.{Other, Replied, Started}
pub use Rattle.std.proofs.lemmas.List.{get_or_default}
pub use Rattle.tree_laws.proofs.Appended.{runs_one}
unfoldable pub use Rattle.tree_laws.proofs.Book.{AllBelow}
pub use Rattle.tree_laws.proofs.Cut.{run_below, run_grew}
unfoldable pub use Rattle.tree_laws.proofs.Cut.{AllFrom}
pub use Rattle.buffer_cache.specs.declared.got.Got.{Got}
pub use Rattle.fs_machine.specs.InMemory.{Loaded}
pub use Rattle.fs_layout.specs.declared.superblock.Super.{Super}
pub use Rattle.fs_machine.specs.declared.files.Refused.{Refused}
pub use Rattle.group_log.specs.declared.commit.Progress.TheVariants.{Waits as WaitsFor}
pub use Rattle.group_log.specs.declared.log.AfterLeave.{AfterLeave}
pub use Rattle.group_log.specs.declared.log.AfterLeave.TheVariants.{Commits, Free}
pub use Rattle.group_log.specs.declared.phase.Phase.{Phase}
pub use Rattle.group_log.specs.declared.phase.Phase.TheVariants.{Halted, Installing, Open, Staging}
pub use Rattle.plain_tree.specs.declared.answer.Cause.{Cause}
pub use Rattle.plain_tree.specs.declared.answer.Reply.{Reply}
pub use Rattle.plain_tree.specs.declared.call.Call.{Call}
pub use Rattle.plain_tree.specs.declared.trace.Placed.{Placed}
pub use Rattle.plain_tree.specs.declared.trace.Trace.{Trace}
pub use Rattle.plain_tree.specs.declared.tree.OpenFile.{OpenFile}

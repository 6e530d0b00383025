-- What this crate's proofs speak of: its own definitions, and what the crates below and the library call things.
pub use Rattle.group_log.proofs.Vocabulary.{Bool, BufferState, Err, GetLaws, GuardState, HasRoom, IfFailed, IfMade, IsGuardOf, IsHeld, IsMember, IsOutsideLog, IsSome, IsSoundLog, IsWhole, LeadsToWhole, List, LogState, MatchOption, None, Ok, Option, Result, SeatState, Some, [], ap, arith, as_new, back_laws, cases_eq, change_first, change_laws, change_to_end, cond, count_of, eqb-true, false, fill_laws, get_by, get_laws, get_new, get_or, given_back, group_in, has, has_block, holder_of, if◌then◌else◌, inl, inr, is_held_by, is_none, is_number, is_some, join_waits, joined, kept, left_at, length, limit_of, members_with, nat_lt, nat_tests, next_phase, not, option_and_then, option_map, phase_at_leave, pin_keeps, pin_seen, progress_at, refl, replicate, seat_of, seats_after, seats_at_fault, seen, seen_in, set, slice_get, slice_index, slice_set, sound_pin, subst, suc, sym, true, unwrap_or, with_block, with_content, with_holder, with_pin, with_seat, without_holder, write_of, write_to, zero, ℕ, ◌&&◌, ◌++◌, ◌+◌, ◌-◌, ◌<◌, ◌==◌, ◌∙◌, ◌∷◌, ◌≡◌, ◌≢◌, ◌≤◌, ◌⊎◌}
unfoldable pub use Rattle.group_log.proofs.Vocabulary.{get_of}
pub use Rattle.buffer_cache.proofs.Vocabulary.{IfHeld, IfSome, OnErr, OnOk, SlotState, filled, get_or_from_slice_get, is_count_by, is_out, length-set, lock_at as lock_row_at, none-some, position, position_or_len, row_of, same_Some, set_same, slice_get-set_other, slice_get-set_same, slice_get_within, ◌↔◌}
unfoldable pub use Rattle.buffer_cache.proofs.Vocabulary.{IsOut, lock_of, unlocked}
pub use Rattle.fs_machine.specs.Vocabulary.{ExecResult, Dinode, Do, OfNext, Ran, Ret, Stops, Waits, advance, asks, exec_result_in, hart_count, list_any, once, option_map_or, taken, turn_is_out, unmarked}
pub use Rattle.sleep_lock.proofs.Vocabulary.{emptied, guard_of}
unfoldable pub use Rattle.sleep_lock.proofs.Vocabulary.{IsNumbered}
pub use Rattle.atomic_programs.proofs.Vocabulary.{Broke, StillWaits, WentOn, bind, set-set}
pub use Rattle.fs_machine.specs.Tables.{TablesState, file_in, file_named, holder_at, holder_in, holder_of as lock_holder, is_file_of, is_for, is_unused, one_less, one_more, open_at, place_named, place_of, references_at, references_in, references_of}
pub use Rattle.fs_machine.specs.InMemory.{IndexState, Inode, Loaded}
pub use Rattle.fs_machine.specs.Steps.{CheckFile, Claim, Close, Commit, Directory, Double, Down, Drop, Freed, Get, GiveDescriptor, Held, Join, JoinToWrite, Leave, Lock, LockFile, LockOpen, Number, Put, Read, RefusesJoin, Reply, SetDirectory, State, TakeDescriptor, TakePlace, Unlock, Up, Walked, Whom, claim_first, claims, drop_which, in_log, in_tables, join_unless, joins, kind_of, lock_open, state_of, up_whom, with_open}
unfoldable pub use Rattle.fs_machine.specs.Steps.{exec}
pub use Rattle.fs_machine.specs.declared.entries.Entry.{Entry}
pub use Rattle.fs_machine.specs.declared.hand.Hand.{Hand}
pub use Rattle.fs_machine.specs.Inodes.{Counts, Dies, Keeps, Refuses, begun_at, counted_at, dead_in, dead_of, directory_of, drop_at, drop_dying, dying, first_free, freed_at, is_positive, is_unreferenced, lock_at, lock_unless, moved_at, refusal_of, uncounted_at, unlock_at, up_by, up_new, walked_at, walked_dying, with_directory, with_file, with_offset}
unfoldable pub use Rattle.fs_machine.specs.Inodes.{drop_freed, drop_inode, drop_walked, lock_file, lock_inode, settle_inode, unlock_inode, up_directory, up_inode}
pub use Rattle.fs_machine.specs.Lists.{change_at, first_empty, next_full}
pub use Rattle.fs_machine.specs.LogPart.{Fails, LeavesIt, LeavesOne, LogPart, Outside, Passes, commit_if, commit_log, failed, get_block, got_by, is_open, join_if, join_log, leave_log, part_of, put_block, read_block, with_seats, write_log, written}
pub use Rattle.fs_machine.specs.Soundness.{InsideFits, IsSoundInodes, PlaceFits}
unfoldable pub use Rattle.fs_machine.specs.Soundness.{AllPlaced, IsOnce}
pub use Rattle.fs_machine.specs.declared.files.OpenFile.{OpenFile}
pub use Rattle.fs_machine.specs.Files.{descriptors_of, double_at, double_to, freed_if, give_at, give_by, given_directory, hand_of, is_free, names, open_by, open_in, opened, shut_at, take_at, with_descriptor, with_hand}
unfoldable pub use Rattle.fs_machine.specs.Files.{double_descriptor, give_next, open_file, shut_descriptor, take_place}
pub use Rattle.fs_machine.specs.Locks.{IsLocked, LeavesLocked}
pub use Rattle.fs_machine.specs.Machines.{P}
pub use Rattle.fs_machine.specs.declared.files.Refused.{Refused}
pub use Rattle.fs_machine.specs.Controls.{Goes, bare, without_record}
pub use Rattle.fs_machine.specs.Premises.{IsElsewhere, JoinWaits, MayJoin, MayLockFile, MayLockOpen, MayPut}
unfoldable pub use Rattle.fs_machine.specs.Premises.{Honest, May, MayWait}
pub use Rattle.fs_machine.specs.declared.hand.Place.{Place}
pub use Rattle.fs_machine.specs.declared.op.Answer.{Answer}
pub use Rattle.fs_machine.specs.Hands.{AreOwn, HandFits, block_at, buffer_at, bytes_at, inode_at, inode_in, no_inode, number_at, reference_at, with_aside, with_buffer, with_bytes, with_inode, with_listed, with_reference, with_seated, with_txn}
pub use Rattle.fs_machine.specs.Tied.{IsOwn, IsOwnInode, IsTied, LeavesTied, bytes_of}
pub use Rattle.fs_machine.specs.Whole.{After, IsWholeLog, KeepsWhole}
pub use Rattle.fs_machine.specs.declared.hand.Place.TheVariants.{First, Second}
pub use Rattle.fs_machine.specs.declared.hand.InodePlace.{InodePlace}
pub use Rattle.fs_machine.specs.declared.hand.InodePlace.TheVariants.{One, Two}
pub use Rattle.fs_machine.specs.declared.shared.Core.{Core}
pub use Rattle.group_log.proofs.Seats.{first_passes, others_given_back, pick, seat_changed, seat_given_back, seat_of_others}
pub use Rattle.std.proofs.lemmas.Option.{slice_get-get_or}
pub use Rattle.fs_machine.specs.Performed.{IfGotNone, committed_as, got_as, joined_as, read_as, said_read, said_written}
pub use Rattle.fs_machine.specs.Fetching.{FetchEnds, fetch_block, fetch_left, fetched_bytes}
pub use Rattle.fs_machine.specs.Ops.{IsAfter, IsClaimed, Prepared, content_at, left_by, op_in, yes_in}
unfoldable pub use Rattle.fs_machine.specs.Ops.{answer_in}
pub use Rattle.fs_machine.specs.Programs.{after_leave, commit_unless, commits, fetch, finish, read_unless}
pub use Rattle.fs_machine.specs.Results.{IfDying, dropped_as, locked_as}
pub use Rattle.fs_machine.specs.Stays.{HasNone, LeavesAll, LeavesAllBut}
pub use Rattle.fs_machine.specs.declared.desk.Desk.{Desk}
pub use Rattle.fs_machine.specs.declared.entries.Dropped.{Dropped}
pub use Rattle.fs_machine.specs.declared.fetch.Fetch.{Fetch}
pub use Rattle.fs_machine.specs.declared.files.FilePlace.{FilePlace}
pub use Rattle.fs_machine.specs.declared.files.FilePlace.TheVariants.{Free, Taken}
pub use Rattle.fs_machine.specs.declared.files.NewFile.{NewFile}
pub use Rattle.fs_machine.specs.declared.files.Want.{Want}
pub use Rattle.fs_machine.specs.declared.op.Op.{Op}
pub use Rattle.std.proofs.lemmas.List.Quantifiers.{position-Some}
pub use Rattle.block_device.specs.Blocks.{faults_after}
pub use Rattle.fs_machine.specs.Finishing.{FinishReady, finish_left}
pub use Rattle.fs_machine.specs.Fresh.{fresh}
pub use Rattle.fs_machine.specs.Own.{LeavesOwn, mine_of, own_of}
pub use Rattle.fs_machine.specs.Performs.{Performs}
pub use Rattle.fs_machine.specs.Shown.{ShowsItsPuts, seen_of, seen_with}
pub use Rattle.fs_machine.specs.Waiting.{IsCounted, WaitsWhereItMay}
pub use Rattle.fs_machine.specs.declared.fetch.Fetched.{Fetched}
pub use Rattle.fs_machine.specs.declared.finish.Finish.{Finish}
pub use Rattle.fs_machine.specs.declared.kind.Kind.{Kind}
pub use Rattle.fs_machine.specs.declared.op.Answer.TheVariants.{Is}
pub use Rattle.fs_machine.specs.declared.op.Op.TheVariants.{DownFreed, DownWalked, GiveTo, LockListed, Record, UnlockMoving, UpAside, UpDirectory}
pub use Rattle.group_log.proofs.Getting.{waits_same}
pub use Rattle.group_log.proofs.Recorded.{pinned_by_pin, room_to_pin}
pub use Rattle.group_log.proofs.Steps.{open_of, under_way}
pub use Rattle.group_log.proofs.Whole.{Stands, after_stands, calls_keep_whole, fault_stands, guard_in, kept_in, seat_in, write_stands}
pub use Rattle.group_log.specs.Waiting.{faults_at}
pub use Rattle.sleep_lock.proofs.Locks.{lock_laws}
pub use Rattle.std.proofs.Common.{IfNone, IsTrue, find, ⊎_elim}
pub use Rattle.std.specs.Prelude.{IsNone, count_by}
pub use Rattle.buffer_cache.specs.declared.got.Got.{Got}
pub use Rattle.group_log.specs.declared.commit.Progress.{Progress}
pub use Rattle.group_log.specs.declared.log.AfterLeave.{AfterLeave}
pub use Rattle.group_log.specs.declared.phase.Phase.{Phase}
pub use Rattle.group_log.specs.declared.phase.Phase.TheVariants.{Halted, Installing, Open, Staging}

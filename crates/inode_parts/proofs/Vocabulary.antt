-- What this crate's proofs speak of: its own definitions, and what the crates below and the library call things.
pub use Rattle.inode_parts.specs.Vocabulary.{Apart, Ask, AtEntries, AtName, AtNothing, Call, Carry, Claim, Claimed, Dinode, Do, Element, Emptied, EnteredState, Entry, Face, Filled, FilledMemory, Finds, First, Found, Given, Goes, GuardState, Had, Hand, Handover, Has, HasNoBuffer, HasRoomFor, Heard, IndexState, Inode, IsAfter, IsEmpty, IsEmptying, IsLoadedAt, Loaded, LockedState, Locks, Made, MatchOption, Name, Named, NothingMore, One, OpAbove as Op, OpenFile, P, Query, ReadReady, Refuses, Reply, Ret, Room, SearchReady, InodePlace, Searched, Second, Sight, Super, Take, Two, Version, Whole, WholeFits, WritePart, WriteReady, WriteResult, Written, Wrote, above_op as op_in, answer_to, bare, below, beside_lock, beside_new, bind, call_in, cause_if, cause_of, clear_left, count_in, descriptor_count, doubled_by, doubled_to, emptying_of, enter_left, enter_seat, entries, file_left, file_seat, fill_left, filled_to, finish_left, first_listed, found_with, freeing_left, freeing_of, given_by, handlers, index_at, inode_at, inode_block, inode_blocks, inode_in, is_dying, is_free, is_listed, is_number, joined_by, kind_of, left_after, loaded_in, lock_left, lock_loaded, lock_seat, lookup, machine, most_slots, name_in, new_file, new_left, new_value, no_inode, nothing, number_at, number_by, number_found, number_in, old_directory, open_left, open_seat, option_map, option_map_or, piece, program, query_in, read_count, read_left, read_of, record_in, record_left, record_of, record_place, reference_at, refused_by, refused_in, root, search_left, second_in, shut_by, shut_to, sight_in, type_of, text_in, truncate_left, unloaded, unmarked, whole_of, with_aside, with_buffer, with_dying, with_first, with_index, with_inode, with_listed, with_record, with_reference, with_seated, with_txn, write_left, yes_in}
unfoldable pub use Rattle.inode_parts.specs.Vocabulary.{answer_in, cleared, put}
pub use Rattle.fs_machine.specs.Hands.{indexed}
pub use Rattle.fs_machine.specs.InMemory.{index_of, no_index, unindexed, with_index_of, with_inode_of}
pub use Rattle.inode_table.specs.Programs.{loaded_of}
unfoldable pub use Rattle.directory.specs.Indexes.{first_of, raised, with_entry}
pub use Rattle.image_versions.specs.Versions.{dirent_len_of, dirents_per_block_of, new_directory_size_of}
pub use Rattle.inodes_on_blocks.specs.Storing.{reindexed, with_index as carry_index}
pub use Rattle.directory.proofs.Indexed.{few_known}
pub use Rattle.inodes_on_blocks.proofs.Vocabulary.{Acts, Aim, BlockInHand as FetchedBlock, Bool, IfSome, IsSome, Knowledge, List, LocksIt, None, OfDevice, OfDirectory, OfFile, Option, Prog, Some, InodeType, Unused, [], acts, address, after_leave, ap, append-nil, append_assoc, arith, bind-assoc, block_count, block_len, blocks_between, cast_unsigned, claim_at, claim_in, clear_bit, clear_in, clear_slot, commit_unless, commits, direct, drop, drop-drop, end_of, entered_to, eq_is, eq_self, face_in, false, fetch, fetch_at, fetch_block, fetch_named, fetch_number, file_locked, filled_with, free_block, free_in, free_in_table, free_indirect, free_numbers, free_table, freed, front_of, give_back, give_content, give_fetched, give_read, give_written, give_zeros, grown, holding, if◌then◌else◌, inl, inr, is_some, joining_to, learned, length, length-append, lent_to, load_unless, locate, locate_at, locate_in_table, located, look_at, look_last, look_up, marked_by, most_writes, name_direct, name_in_table, nat_lt, nat_tests, next_block, not, numbers_in, open_locked, or_next, overwrite, part_of, put_grown, put_inode, put_named, put_part, put_record, read_from, read_part, read_unless, record_had, refl, same_self, search, search_entries, seen_record, slice_index, slot_count, slot_for, slot_found, inode_type_at, spell_dirent, stat_loaded, stat_locked, store_inode, store_written, subst, suc, sym, table_of, take, take_first, take_one, true, unwrap_or, with_address, with_slot, with_table, write_in, write_located, write_unless, zero, zero_found, ℕ, ℤ, ◌%◌, ◌*◌, ◌++◌, ◌+◌, ◌-◌, ◌/◌, ◌<◌, ◌==◌, ◌^◌, ◌∙◌, ◌∷◌, ◌≡◌, ◌≢◌, ◌≤◌, ◌⊎◌}
unfoldable pub use Rattle.inodes_on_blocks.proofs.Vocabulary.{claim_from, first_clear_below, found_in, read_blocks, search_from, search_full, with_dinode, with_dirent, write_blocks}
pub use Rattle.inode_data.proofs.Vocabulary.{HasOne, beside_emptying, first, record_has, without_content, write_part}
pub use Rattle.fs_machine.proofs.Vocabulary.{without_record}
pub use Rattle.inode_table.proofs.Vocabulary.{recorded}
pub use Rattle.inode_machine.proofs.Vocabulary.{dup_on, full, read_on, read_reply, say}
pub use Rattle.directory.proofs.Vocabulary.{write_has}
pub use Rattle.whole_calls.proofs.Vocabulary.{IsNamed, IsNamedInTwo, drop-append-add}
pub use Rattle.inode_parts.specs.declared.note.Notes.{Notes}
pub use Rattle.inode_parts.specs.Carries.{carry_in, had_at, had_of, handed, note_at, with_note}
pub use Rattle.atomic_programs.specs.Prog.{plain}
pub use Rattle.inode_parts.specs.Parts.{IsPart, Message, Part, answer_by, hears_in, lowered, one, with_part}
pub use Rattle.inode_parts.specs.OneSteps.{Begins, HasFreeSeat, HasLock, HasReference, IsAlone, MayRefer, StepReady, free_seat, joining_heard, loan_heard, locks, other, refers, seat_of_lock, seat_of_reference, step_asked, step_for, step_left, step_notes, still}
pub use Rattle.fs_machine.proofs.Goings.{goes_to, goes_with}
pub use Rattle.inode_parts.specs.Sides.{IsOf, beside_in}
pub use Rattle.inode_parts.specs.declared.note.Note.{Note}
pub use Rattle.inode_data.specs.InHand.{beside_buffers}
pub use Rattle.inode_parts.specs.Leaving.{StaysOrLeaves, having}
pub use Rattle.inode_parts.specs.Holding.{CameTo, Changed, Having, IsCounted, Learns, LearnsBy, LearnsFile, Leaves, LeavesClaim, LeavesDown, LeavesInstall, LeavesJoinFile, LeavesLend, LeavesShut, LeavesUp, LeavesWalkDown, Opened, ReferredOrAside, Reloaded, StandBeside, Unlocked, without_numbers}
unfoldable pub use Rattle.inode_parts.specs.Holding.{Runs}
pub use Rattle.atomic_programs.proofs.Prog.{plain-bind}
pub use Rattle.inode_parts.specs.Expecting.{BeginsWith, HasChangeable, HasOpened, MayLock, MayOpen}
pub use Rattle.inode_parts.specs.UnderWay.{GoesOrLeaves, OneAmid, UnderWay}
pub use Rattle.inode_parts.specs.declared.part.InodePart.{InodePart}
pub use Rattle.file_table.specs.LockingFiles.{HasFile, load_locked, load_open, lock_file_loaded, lock_open_loaded, opens}
pub use Rattle.file_table.specs.declared.lock_file.HeldFile.{HeldFile}
pub use Rattle.inode_parts.specs.Changes.{IsAmid, MayChange, beside_inode, changed, loads, recorded_at, rewritten, with_loaded}
pub use Rattle.inode_parts.specs.Coming.{Comes}
pub use Rattle.inode_parts.specs.Faces.{face_by, face_unless_free, type_by_number}
pub use Rattle.inode_parts.specs.FileReads.{FillsFrom, MayMove, ReadFileAmid, read_file_left, read_over}
pub use Rattle.inode_parts.specs.FileWrites.{WriteBegins, WriteFileAmid, WriteFileReady, ended_as, write_done, write_file_left, write_over, wrote_upto}
pub use Rattle.inode_parts.specs.InodeParts.{AskTold, FillsAs, PartReady, PartTold, ReadsInto, ends_with, is_short, one_or_leave, part_for, part_left, part_left_after}
pub use Rattle.inode_parts.specs.Takes.{IsTaken, Sees, TakeAmid, TakeBegins, listed_ends, looked, named_ends, note_of, only_seen, seen, take_left}
pub use Rattle.inode_parts.specs.declared.one_step.OneStep.{OneStep}
pub use Rattle.inode_parts.specs.declared.file_bytes.ReadFilePart.{ReadFilePart}
pub use Rattle.inode_parts.specs.declared.take_part.TakePart.{TakePart}
pub use Rattle.inode_parts.specs.declared.file_bytes.WriteFilePart.{WriteFilePart}
pub use Rattle.path_walk.specs.Asks.{asks, bool_in, claimed_in, claimed_of, face_of, hears, joined_in, loan_in, shut_in, start_in, wrote_of}
pub use Rattle.std.proofs.Math.Seq.{drop-append_seam, take-append_seam}
pub use Rattle.fs_machine.specs.Ops.{IsDown, IsHanded, IsJoined, IsKept, IsLent, IsOpened, dropped_by, kept_by}
pub use Rattle.inode_data.specs.Freeing.{store_record, truncate}
pub use Rattle.inode_parts.specs.Calls.{FillsOrStays, IsFilled, IsOnWay, IsReading, LoweredReady, RunsByParts, lowered_left, path_of, whole_with, with_text}
pub use Rattle.inode_parts.specs.Clears.{ClearAmid, ClearBegins, HasFound, clear_part_left, cleared_at, slot_in}
pub use Rattle.inode_parts.specs.FileLocks.{LockBegins, LockFileAmid, LockOpenAmid, file_ends, lock_file_left, open_ends}
pub use Rattle.inode_parts.specs.Frees.{FreeAmid, FreeBegins, free_ends}
pub use Rattle.inode_parts.specs.LockedFiles.{moved}
pub use Rattle.inode_parts.specs.Relocks.{MayRelock, RelockAmid, RelockBegins, RelockReady, relock_left}
pub use Rattle.inode_parts.specs.declared.changing_directories.ClearPart.{ClearPart}
pub use Rattle.inode_parts.specs.declared.changing_inodes.EmptyPart.{EmptyPart}
pub use Rattle.inode_parts.specs.declared.changing_directories.EnterPart.{EnterPart}
pub use Rattle.inode_parts.specs.declared.changing_directories.FillPart.{FillPart}
pub use Rattle.inode_parts.specs.declared.locking_files.LockFilePart.{LockFilePart}
pub use Rattle.inode_parts.specs.declared.file_bytes.LockedFile.{LockedFile}
pub use Rattle.inode_parts.specs.declared.relock_part.RelockPart.{RelockPart}
pub use Rattle.inode_parts.specs.declared.locking_files.StatFilePart.{StatFilePart}
pub use Rattle.inode_parts.specs.declared.changing_inodes.StorePart.{StorePart}
pub use Rattle.inodes_on_blocks.specs.Entering.{seek_free, seek_full}
pub use Rattle.whole_calls.specs.Wholes.{WholeAsks}
pub use Rattle.atomic_programs.proofs.Below.{part_begins}
pub use Rattle.directory.proofs.HasOnes.{clear_has, enter_has, fill_has, search_has}
pub use Rattle.directory.specs.Entering.{enter as code_enter, enter_at, enter_in as code_enter_in, entered_by, entered_if}
pub use Rattle.directory.specs.Filling.{dots, fill as fill_names, filled_by}
pub use Rattle.directory.specs.Programs.{give_record, is_directory, is_live_directory, put_dirent, put_entry}
pub use Rattle.directory.specs.Searching.{beside_index}
pub use Rattle.directory.specs.Sought.{IsSlot}
pub use Rattle.directory.specs.declared.search.Search.TheVariants.{Fetching, Giving}
pub use Rattle.file_table.proofs.HasOnes.{file_has, open_has}
pub use Rattle.fs_machine.proofs.Going.{goes_bind}
pub use Rattle.fs_machine.proofs.HasOnes.{finish_has}
pub use Rattle.fs_machine.specs.Hands.{first_in}
pub use Rattle.inode_data.proofs.Goings.{freeing-kept, index-kept, number-kept}
pub use Rattle.inode_data.proofs.HasOnes.{freeing_has, read_has, truncate_has}
pub use Rattle.inode_data.specs.FreeingInodes.{IsUnloadedAt, beside_freeing, free_record, store_free}
pub use Rattle.inode_data.specs.PartWriting.{written_as}
pub use Rattle.inode_parts.specs.Claims.{ClaimAmid, ClaimBegins, claim_ends, claimed_by}
pub use Rattle.inode_parts.specs.Empties.{EmptyAmid, empty_part_left, empty_seat}
pub use Rattle.inode_parts.specs.Enters.{AskStands, EnterAmid, enter_part_left, entered, entered_so}
pub use Rattle.inode_parts.specs.FileStats.{StatAmid, stat_ends, stat_left}
pub use Rattle.inode_parts.specs.Fills.{FillAmid, fill_part_left, filled}
pub use Rattle.inode_parts.specs.Sizes.{IsSized}
pub use Rattle.inode_parts.specs.Stores.{StoreAmid, store_part_left}
pub use Rattle.inode_parts.specs.declared.changing_inodes.ClaimPart.{ClaimPart}
pub use Rattle.inode_parts.specs.declared.changing_inodes.FreePart.{FreePart}
pub use Rattle.inode_parts.specs.declared.locking_files.LockOpenPart.{LockOpenPart}
pub use Rattle.inode_parts.specs.declared.lowered.Lowered.{Lowered}
pub use Rattle.inode_parts.specs.declared.file_bytes.ReadFilePart.TheVariants.{Ending, Reading}
pub use Rattle.inode_parts.specs.declared.file_bytes.WriteFilePart.TheVariants.{Denied, Writing}
pub use Rattle.inode_table.proofs.Goings.{loaded-there, recorded-in}
pub use Rattle.inode_table.proofs.HasOnes.{lock_has, new_has}
pub use Rattle.inode_table.specs.HeldInodes.{HasBlock, counted}
pub use Rattle.inode_table.specs.LockingInodes.{HasLocked}
pub use Rattle.inode_table.specs.NewInodes.{look_in, make_in, new_inode}
unfoldable pub use Rattle.inode_table.specs.NewInodes.{new_from}
pub use Rattle.inodes_on_blocks.specs.Files.{with_file}
pub use Rattle.inodes_on_blocks.specs.Naming.{slot_of}
pub use Rattle.inodes_on_blocks.specs.Writing.{wrote_to}
pub use Rattle.path_walk.specs.declared.asks.Joined.{Joined}
pub use Rattle.path_walk.specs.declared.asks.Loan.{Loan}
pub use Rattle.std.proofs.Math.ListN.{drop_of_length-le}
pub use Rattle.std.specs.Int.{cast_signed, w16}
pub use Rattle.whole_calls.proofs.Shifted.{in_two, named_front}
pub use Rattle.directory.specs.declared.search.Search.{Search}
pub use Rattle.file_table.specs.declared.lock_file.LockFile.{LockFile}
pub use Rattle.file_table.specs.declared.lock_open.LockOpen.{LockOpen}
pub use Rattle.fs_layout.specs.declared.entry.Dirent.TheVariants.{Free, Used}
pub use Rattle.fs_machine.specs.declared.files.NewFile.{NewFile}
pub use Rattle.fs_machine.specs.declared.files.Refused.{Refused}
pub use Rattle.fs_machine.specs.declared.finish.Finish.{Finish}
pub use Rattle.fs_machine.specs.declared.hand.Place.{Place}
pub use Rattle.fs_machine.specs.declared.op.Answer.{Answer}
pub use Rattle.group_log.specs.declared.log.AfterLeave.{AfterLeave}
pub use Rattle.group_log.specs.declared.log.AfterLeave.TheVariants.{Commits}
pub use Rattle.inode_data.specs.declared.addresses.Address.{Address}
pub use Rattle.inode_data.specs.declared.addresses.Address.TheVariants.{Direct, InTable}
pub use Rattle.inode_data.specs.declared.free_inode.FreeInode.{FreeInode}
pub use Rattle.inode_data.specs.declared.read_part.ReadPart.{ReadPart}
pub use Rattle.inode_data.specs.declared.truncate.Emptying.{Emptying}
pub use Rattle.inode_table.specs.declared.locking_inodes.LockInode.{LockInode}
pub use Rattle.inode_table.specs.declared.new_inode.NewInode.{NewInode}
pub use Rattle.plain_tree.specs.declared.answer.Cause.{Cause}
pub use Rattle.plain_tree.specs.declared.answer.Full.TheVariants.{Descriptors}

-- What the proofs of this crate's functions use: its lemmas, and what they speak of.
pub use Rattle.inode_parts.proofs.Vocabulary.{Ask, AskTold, BeginsWith, Bool, Carry, Comes, Dinode, Emptying, EnteredState, Entry, Face, FillsAs, FillsFrom, Free, Goes, GoesOrLeaves, HasRoomFor, Having, Heard, IfSome, InodePart, IsAfter, IsAlone, IsAmid, IsLoadedAt, IsOnWay, IsPart, Leaves, Loaded, List, Locks, Name, Named, None, Option, P, Part, PartReady, PartTold, Place, Query, ReadFilePart, ReadsInto, Refuses, RelockPart, RelockReady, Reply, Ret, InodePlace, IsSlot, Searched, Sees, Some, Take, TakePart, UnderWay, Version, WholeFits, WriteFilePart, WriteFileReady, [], answer_to, ap, append-nil, arith, beside_buffers, beside_emptying, beside_in, emptying_of, freeing-kept, beside_inode, beside_new, bind, call_in, carry_in, code_enter as enter, counted, drop, empty_seat, enter_seat, enter_left, enter_part_left, entered, face_by, face_unless_free, file_ends, file_left, file_seat, fill_left, fill_names as fill, filled, filled_to, found_with, free_ends, free_seat, freeing_left, handed, having, hears, index_at, inode_at, inode_in, is_some, left_after, length, listed_ends, loaded-there, loaded_in, lock_file_left, lock_left, lock_loaded, lock_seat, looked, lookup, name_in, named_ends, new_left, new_value, no_index, not, note_at, note_of, number_at, number_found, number_in, only_seen, open_ends, open_left, open_seat, other, part_left, part_left_after, piece, program, put_entry, query_in, read_file_left, read_left, record_in, record_left, record_place, reference_at, refl, relock_left, search_left, seat_of_lock, second_in, slot_in, type_of, stat_ends, stat_left, step_for, store_inode as store, subst, sym, take, take_left, text_in, true, truncate, truncate_left, unindexed, whole_of, whole_with, with_first, with_record, with_text, write_file_left, write_left, write_over, ℕ, ◌*◌, ◌++◌, ◌-◌, ◌<◌, ◌^◌, ◌∙◌, ◌≡◌}
unfoldable pub use Rattle.inode_parts.proofs.Vocabulary.{answer_in, cleared}
pub use Rattle.inode_parts.specs.Vocabulary.{Writes as WriteFile, asks, entered_as, file_asked, first_in, freeing_asked, lock_asked, new_asked, new_seat, op_in, open_asked, piece_len, read_asked, reply_to, search_asked, write_asked}
pub use Rattle.inodes_on_blocks.proofs.Vocabulary.{Enter, drop_all, min, replicate, rules, take_all}
pub use Rattle.fs_machine.proofs.Vocabulary.{IfNone, buffer_at}
pub use Rattle.inode_parts.proofs.Amid.{buffer_beside, buffers_beside, leaves_both, leaves_changed, record_beside, reloads, stands, still_amid}
pub use Rattle.inode_parts.proofs.Coming.{comes_first, comes_on, file_learned, file_opens, never_came}
pub use Rattle.inode_parts.proofs.OnWay.{begins_now, first_runs, next_ends, next_runs, read_text, stands_of, text_stays, told_of, way_now}
pub use Rattle.whole_calls.proofs.Shifted.{in_two}
pub use Rattle.inode_data.proofs.Asking.{asks_bind}
pub use Rattle.inode_parts.proofs.Locking.{first_seat, lock_on, lock_over, other_free}
pub use Rattle.inode_parts.proofs.Taking.{begun_so, is_taken, left_begun, search_on, search_over, seen_ends, seen_over, still_begun, take_on, take_over}
pub use Rattle.inode_parts.proofs.Besides.{inode_over, taken_stays}
pub use Rattle.inode_parts.specs.Leaving.{heard_if}
pub use Rattle.file_table.specs.LockingFiles.{FileEnds, file_value}
pub use Rattle.file_table.specs.declared.lock_file.FileLocked.{FileLocked}
pub use Rattle.inode_parts.specs.Beginnings.{PartHasBegun, PartMayBegin}
pub use Rattle.inode_parts.proofs.Begins.{alone, is_part, is_ready, other_fills, short_begins, short_fills, short_so, told_for}
pub use Rattle.inode_parts.proofs.Seeing.{comes_between, comes_on_search, counted_face, sees_entries, sees_name, sees_nothing, take_leaves}
pub use Rattle.inode_parts.proofs.StepLeaves.{step_leaves, under_way}
pub use Rattle.inode_parts.proofs.Texts.{fills_now, fits_with, its_own, on_text, reads_now, reads_with, room_before, room_then, same_with, way_with}
pub use Rattle.inode_parts.specs.FileWrites.{WriteFileTold, write_file_asked}
pub use Rattle.inode_parts.specs.Takes.{TakeReady, TakeTold, take_asked, take_seat}
pub use Rattle.fs_machine.proofs.Goings.{second-kept}
pub use Rattle.inode_parts.proofs.Beginning.{may_change, may_claim, may_free, may_lock, may_take_by, may_write}
pub use Rattle.inode_parts.proofs.Claims.{claim_is_part, claim_leaves, claim_on, claim_over, kind_passes}
pub use Rattle.inode_parts.proofs.Clears.{clear_ends, clear_is_part, clear_on, cleared_so}
pub use Rattle.inode_parts.proofs.Dups.{dup_runs}
pub use Rattle.inode_parts.proofs.Empties.{empty_is_part, empty_on}
pub use Rattle.inode_parts.proofs.Enters.{enter_ends, enter_is_part, enter_on, never_over}
pub use Rattle.inode_parts.proofs.FileEnds.{locked_at, opened_at, refused_so}
pub use Rattle.inode_parts.proofs.FileLocks.{lock_file_is_part, lock_open_is_part}
pub use Rattle.inode_parts.proofs.FileReads.{begun_fills, begun_is_part, may_move, read_on, room_so}
pub use Rattle.inode_parts.proofs.FileStats.{stat_file_is_part, told_at, untold}
pub use Rattle.inode_parts.proofs.FileWrites.{begun_deny, begun_write, done_so, ready_for, write_on}
pub use Rattle.inode_parts.proofs.Fills.{fill_ends, fill_is_part, fill_on, filled_so}
pub use Rattle.inode_parts.proofs.Freeing.{free_begins, free_is_part, free_there}
pub use Rattle.inode_parts.proofs.Frees.{free_on, free_over, free_stays}
pub use Rattle.inode_parts.proofs.Goings.{aside_goes, checked_goes, directory_goes, doubled_goes, down_goes, give_goes, installed_goes, joined_goes, lent_goes, moved_goes, root_goes, settle_goes, shut_goes, slot_goes, up_goes, walked_goes}
pub use Rattle.inode_parts.proofs.Lefts.{lock_file_after, read_after, stat_after, take_after, write_after}
pub use Rattle.inode_parts.proofs.LockedFiles.{loaded_still, other_still}
pub use Rattle.inode_parts.proofs.Lowering.{asks_on, asks_with, ends_on, goes_within, new_is, nothing_in, same_hears}
pub use Rattle.inode_parts.proofs.Relocks.{came_alone, came_block, came_buffers, came_goes, came_number, came_some, relock_comes, relock_is_part, relock_leaves, relock_ready, relocked_by, taken_by}
pub use Rattle.inode_parts.proofs.Stores.{store_is_part}
pub use Rattle.inode_parts.proofs.Takes.{take_asks, take_is_part}
pub use Rattle.inode_parts.proofs.UnderWay.{claims, clears, empties, enters, fills, frees, lock_files, lock_opens, reads, relocks, stats, stores, takes, writes}
pub use Rattle.inode_parts.specs.Clears.{clear_part_asked}
pub use Rattle.inode_parts.specs.Empties.{empty_part_asked}
pub use Rattle.inode_parts.specs.Enters.{enter_part_asked}
pub use Rattle.inode_parts.specs.FileLocks.{lock_file_asked}
pub use Rattle.inode_parts.specs.FileReads.{ReadFileTold, read_file_asked}
pub use Rattle.inode_parts.specs.FileStats.{stat_asked}
pub use Rattle.inode_parts.specs.Fills.{fill_part_asked}
pub use Rattle.inode_parts.specs.InodeParts.{part_asked}
pub use Rattle.inode_parts.specs.Relocks.{relock_asked}
pub use Rattle.path_walk.specs.Asks.{stepped}
pub use Rattle.std.proofs.Common.{length-drop}
pub use Rattle.std.proofs.Math.ListN.{length-replicate}
pub use Rattle.std.proofs.lemmas.List.{take_min}

-- What this crate's proofs speak of: its own definitions, and what the crates below and the library call things.
pub use Rattle.inodes_on_blocks.specs.Vocabulary.{After, AtEntries, AtName, AtNothing, Below, Both, Cause, CheckFile, Claim, Claims, Clear, Commit, Commits, Counts, Desk, Device, ExecResult, Dies, Dinode, Directory, DirectorySlot as Slot, Dirent, Do, Double, Doubled, Down, DroppedState, Empty, Enter, Entry, Face, FetchedBlock as BlockInHand, File, FilePlace, Fill, FilledMemory, Forget, Found, Freed, UnlockInode, Given, Halted, Handover, HasRoom, HasWholeBlocks, Hold, Idle, Inode, Install, Inv, IsBytes, IsData, IsDinode, IsDirent, IsGoodSuper, IsHome, IsMember, IsNamedPart, IsOnce, IsOutsideLog, IsSoundTables, IsWellFormed, IsWholeLog, Join, JoinFile, Keeps as Stays, NodeKind, Lasts, Leave, Lend, LendDirectory, Lent, LoanResult, Lock, LockOpen, LockResult, LockedState, Locks, LocksIt, LogPart, LowerLayer, Machine, Moved, Name, Named, Node, NotLocked, Number, OfDevice, OfDirectory, OfFile, Open, OpenFile, Outside, Phase, Prog, Put, Query, Ran, ReadFile, Refused, Refuses, Release, Ret, Say, SeatState, SetDirectory, Short, Shut, ShutState, Sight, SlotState, InodeType, Spent, StatFile, State, Stopped, Stops, Store, Super, TablesState, Take, Taken, Tree, Unused, Up, UpStart, UpToLog, Used, Waits, WalkDown, Walked, Whole, Whom, Wp, WriteFile, Version, WriteResult, Wrote, after_leave, all_slots, at_rest, bind, bit_of, block_at, block_len, block_number, blocks_between, content_of, dead_of, descriptor_count, dinode_at, dirent_len_of, dirents_per_block_of, dot, dotdot, fetch, fetch_block, file_count, file_named, free_block, free_in, free_indirect, free_numbers, freed, fresh, grown, hart_count, has, holder_in, holder_of, holding, if_kept, inode_block, inode_blocks, inodes_per_block, is_at, is_block, is_dead, is_free, is_hart, is_held_by, is_marked, is_number, joined, joined_count, kept, largest_size, last, load_unless, lock_holder, look_at, lookup, magic_of, more, most_blocks, most_recorded, most_slots, named_by, new_directory_size_of, new_record, no_record, numbers_in, numbers_per_block, once, option_map, overwrite, own_of as above_own, place_of, put_block, read_from, read_refused, references_in, refusal_of, released, root, search, seen_in, seen_of, size, slot_at, slot_count, slot_for, slots_of, spell_dirent, spent_after, start_number, store_inode, super_fields, table_of, take_block, times, tree_in, tree_of, unmarked, unspent, unwrap_or, version_in, with_bitmap, with_contents, with_offset, with_record as with_inode, with_slot, without_content, write_refused}
unfoldable pub use Rattle.inodes_on_blocks.specs.Vocabulary.{any_below, double_descriptor, drop_inode, drop_walked, found_in, give_next, inode_of, lock_file, lock_inode, logged, node_by, numbers_by, numbers_of, one_if, open_file, put, raises, recovered, same_name, settle, settle_inode, shut_descriptor, sizes_of, take_place, u32_at, unlock_inode, unused_from, up_directory, up_inode, with_bit, with_dinode, with_dirent, without_bit, write_blocks, zeros}
pub use Rattle.inodes_on_blocks.specs.Vocabulary.{node_of}
pub use Rattle.fs_machine.proofs.Vocabulary.{Bool, Fails, Get, GetLaws, IfSome, InsideFits, IsElsewhere, IsSome, IsSoundInodes, List, LockFile, MatchOption, MayLockFile, None, Option, Passes, PlaceFits, Read, Some, [], ap, arith, as_new, begun_at, cases_eq, change_at, change_first, change_to_end, claim_first, claims, commit_if, commit_unless, commits, cond, count_by, counted_at, dead_in, descriptors_of, exec_result_in, directory_of, double_at, double_to, drop_at, drop_dying, drop_which, dying, eqb-true, failed, false, file_in, filled, first_empty, first_free, first_passes, freed_at as uncounted_freed, freed_if, get_by, get_laws, get_new, get_or, get_or_from_slice_get, give_at, give_by, given_back, given_directory, got_by, group_in, hand_of, has_block, holder_at, if◌then◌else◌, in_log, in_tables, inl, inr, is_file_of, is_none, is_open, is_some, is_unreferenced, is_unused, join_if, join_unless, join_waits, joins, left_at, length, length-set, limit_of, list_any, lock_open as lock_opened, lock_row_at, lock_unless, locked_as, members_with, mine_of, moved_at, names, nat_lt, nat_tests, next_full, next_phase, none-some, not, one_less, open_at, open_by, open_in, open_of, opened, option_and_then, option_map_or, others_given_back, own_of, phase_at_leave, pick, place_named, position-Some, position_or_len, read_block, read_unless, references_at, references_of, refl, replicate, row_of, same_Some, seat_changed, seat_given_back, seat_in, seat_of, seat_of_others, seats_after, seats_at_fault, set, shut_at, slice_get, slice_get-get_or, slice_get-set_other, slice_get-set_same, slice_get_within, slice_index, slice_set, subst, suc, sym, take_at, taken, true, turn_is_out, uncounted_at, under_way, unlock_at, up_whom, with_block, with_content, with_descriptor, with_directory, with_file, with_hand, with_holder, with_offset as tables_offset, with_open, with_pin, with_seat, with_seats, without_holder, written, zero, ℕ, ⊎_elim, ◌&&◌, ◌++◌, ◌+◌, ◌-◌, ◌<◌, ◌==◌, ◌∙◌, ◌∷◌, ◌≡◌, ◌≢◌, ◌≤◌, ◌⊎◌}
unfoldable pub use Rattle.fs_machine.proofs.Vocabulary.{drop_freed, get_of, lock_of}
pub use Rattle.inode_machine.proofs.Vocabulary.{Begin, Fills, Fine, Folders, Frees, Goes, Good, Held, HonestPiece, IsForest, IsText, IsThere, JoinResult, Joined, Laws, Lends, LocksNone, Look, Makes, Mark, Mends, Move, NotJoined, Orphans, OwnMove, P, GiveUpWalk, Spares, Spoils, TreeData, Walk, and_then, and_true, any_at, any_none, append-nil, append_assoc, blank, child_of, claimed, close_at, close_if, close_last, close_less, counted_down, counted_up, creates, dead_links, double_if, down_if, either, emptied, enter_if, entry_at, entry_moved, eq_is, eq_isnt, eq_not, eq_self, face_or, file_at, filter, folder, folder_dead, folders_of, handed, has_place, has_room, holds_raised, install_if, installed, is_empty_kind, is_empty_node, is_empty_slot, is_full_directory, is_last, is_nothing, join_at, lend_if, lend_last, length-append, links_in, links_of, live_directory, live_is, lock_at, lock_if, locked, look_live, looking_cost, lowest, map, mended, mode_refusal, more_users, moved_in, new_id, next_used, no_driver, no_node as dead_no_directory, node_or, none_any, number_is, offset_of, one_no, one_yes, onto, own, path_of, place_count, put_other, put_same, raised_at, referenced, reserved, same_or, serving, settled_well, slot_if, slot_or, type_of, spoiled, start_if, sum_changed, sum_none, sum_part, sum_same, take, take-append-drop, unheld, unlocked, unmoved, unopened, up_if, users, uses, view, walk_down_if, with_bytes, with_count, with_dots, with_entry, with_lent, with_made, with_no_bytes, without_entry, write_if, ◌*◌, ◌/◌, ◌^◌, ◌||◌}
pub use Rattle.plain_tree.specs.Tree.{elements, parent, resolve}
pub use Rattle.plain_tree.specs.Steps.{content, entry_bytes, refusal, write_kind}
unfoldable pub use Rattle.plain_tree.specs.Steps.{effect_with, entries, refusal_with}
pub use Rattle.inode_machine.specs.Exec.{read_at, stat_at, write_at}
pub use Rattle.inode_machine.specs.Inodes.{face_of}
pub use Rattle.inode_machine.specs.Marks.{act_all, made_by, marked, with_mark}
pub use Rattle.inode_machine.specs.Rules.{IsName}
unfoldable pub use Rattle.inode_machine.proofs.Vocabulary.{all_used, any_used, cleared, first_from, first_slot, follow, look, lowest_from, sum_below}
pub use Rattle.image_tree.proofs.Vocabulary.{All, AllByRecursion, AllPairs, Contains-append_left, Contains-append_right, HasGoodLog, HasGoodNumbers, HasGoodTypes, HasMarks, HasRoot, IsDotDot, IsGoodType, NamesOnce, blocks_for, cases_lt, count_of, drop, drop_all, eqb, false_from_ne_true, false≢true, flat_map, get_or-map, get_or-replicate, get_or_append_left, get_or_at, get_or_past, is_directory, is_file, is_live, is_positive, length-map, length-replicate, length-u32s_at, list_all, log_count, log_head_at, logged-empty, lt-ltb, min, nat_le, negsuc, number_in, pos, recovered-empty, recovered-own, recursion_from_All, slot_numbers, slot_of, sum_by-append, sum_by-cons, ℤ, ◌%◌, ◌<ℤ◌, ◌≤ℤ◌}
pub use Rattle.image_tree.specs.Images.{IsViewOf, HasGoodCounts, HasGoodSizes, HasGoodSlots, IsOneTree, children_of, further_in, further_names_of, named_in, names_of, parent_of, proper_in, proper_names_of, up, first_nodes, first_slots, slot_at as slot_on, slots_in}
pub use Rattle.fs_layout.specs.Entry.{dirent_at}
pub use Rattle.image_versions.specs.Versions.{name_len_of}
unfoldable pub use Rattle.image_tree.proofs.Vocabulary.{climb, content_block, first_nodes as first_nodes_by, first_slots as first_slots_by, front_blocks, gathered, is_live_directory, is_node, slot_at as slot_by, slots_in as slots_in_by, u32s_at}
unfoldable pub use Rattle.image_tree.specs.Trees.{kind_of as kind_by}
pub use Rattle.directory.proofs.Vocabulary.{Aim, FirstIs, IsFirst, address, block_count, dirent_of, drop-drop, eqb-false, fetch_at, fetch_named, fetch_number, first_is, free_of, get_or-append_right, give_fetched, is_name, is_sought, is_used, is_zero, le-leb, name_of, number_of, or_next, others_stay, reads_back, record_at, spell-dirent_of, u16_at-lt, used_of}
unfoldable pub use Rattle.directory.proofs.Vocabulary.{search_from, u16_at, u16_bytes}
pub use Rattle.plain_tree.proofs.Vocabulary.{IsReached, fresh_hart, get_or-set_other, get_or-set_same, resting, take_all}
pub use Rattle.inode_data.proofs.Vocabulary.{bind-assoc, drop-append-le, end_of, filled_with, le-ltb, length-drop, locate, located, look_up, name_in_table, next_block, overwrite-overwrite, part_of, read_part, take-append-le, take_one, write_located}
unfoldable pub use Rattle.inode_data.proofs.Vocabulary.{read_blocks}
pub use Rattle.fs_layout.proofs.Vocabulary.{FitsSigned, cast_unsigned, dinode_of, i16_at, i16_bytes, spell_dinode, take-take}
unfoldable pub use Rattle.fs_layout.proofs.Vocabulary.{u32_bytes}
pub use Rattle.group_log.proofs.Vocabulary.{IsUnderWay, PinsFit, find, guard_of, one_more}
pub use Rattle.bitmap_alloc.proofs.Vocabulary.{bit_and, bit_or, clear_bit, give_zeros, marked_by, take_first, zero_found}
unfoldable pub use Rattle.bitmap_alloc.proofs.Vocabulary.{first_clear_below}
pub use Rattle.atomic_programs.proofs.Vocabulary.{ActOf, Affords, LowerLaws, Tracks, both, placed_at, placed_with, ran_to}
pub use Rattle.inodes_on_blocks.specs.Below.{World, came_to, commits_after, disk_of, exec, inode_in, log_of, new_after, owners_after, owners_of, tables_of, untyped}
pub use Rattle.inodes_on_blocks.specs.Shown.{AreBytes, CommitShows, IsNew, LoadsShow, OffsetsShow, Shows, ghost_of, if_joined, on_blocks, unless_new}
pub use Rattle.inodes_on_blocks.specs.Lowering.{Apart, Base, Carry, Emptied, Finds, Had, Has, HasOpen, InHand, IsFirstNamed, IsKnown, IsLoaded, IsOpened, IsThrough, Keeps, KeepsInode, Kept, Knowledge, Labels, NothingMore, Opened, Same, Stands, below, buffer_in, commit_in, has_name, labelled, nothing, record_had, undertaken}
pub use Rattle.inodes_on_blocks.specs.Holds.{AreNodesOf, HasContent, HasContentOf, Holds, HoldsAt, IsDevice, IsInode, IsOwned, IsRecord, IsUnused, MarksBlocks, MarksNoOthers, NamesOwned, Nodes, OwnsBlocks, entry_of, live_part, owner_in, size_in, type_in}
unfoldable pub use Rattle.inodes_on_blocks.specs.Holds.{live_nodes, owner_upto}
pub use Rattle.inodes_on_blocks.specs.ShownTables.{BothCame, DeskShows, DesksShow, FilesShow, PlacesShow, Runs, descriptor, doubled_as, file_of, first, given_as, is_taken, kind_of, lent_by, loaded, loaded_at, loaded_in, loaded_of, new_file, place_with, refused_as, shut_as}
pub use Rattle.inodes_on_blocks.specs.Holding.{HasBuffer, IsFetched, PutBack, SameBut, in_hand}
pub use Rattle.inodes_on_blocks.specs.Recording.{BitmapsPutBits, CanPut, ClearedBitsLeave, DataPutsLeave, IsChanging, MarksAreBits, NamingPutsLeave, PutLeaves, RecordPutsLeave, RecordedPutsKeep, SetBitsLeave, log_with, owners_with}
pub use Rattle.atomic_programs.proofs.Sound.{Wp-more, Wp-weaker}
pub use Rattle.atomic_programs.proofs.Joined.{Acting, Here, Silent, Stable, ToAct, acted, may_act, s-act, s-silent, s-step, to_act}
pub use Rattle.inodes_on_blocks.specs.Puts.{Becomes, IsBitPut, IsBytesPut, IsGivenBack, IsInodePut, IsLaidOut, IsNumberPut, IsPut, IsSlotPut, IsSpare, IsTaken, IsUntouched, LeavesOthers, Names, slots_with}
pub use Rattle.inodes_on_blocks.specs.Giving.{Avoids, BlocksAreGivenBack, Gave, GaveBlock, GaveBlocks, KeepsRoom, NumbersAreGivenBack, Owns, world_with}
pub use Rattle.inodes_on_blocks.specs.OnBlocks.{AreOnBlocks, Ghost, is_joined, shown}
pub use Rattle.inodes_on_blocks.specs.Room.{GivesRoom, HasSpent}
pub use Rattle.inodes_on_blocks.specs.Acting.{ActsOnceAt, Answers, DoesIt, DoesItAt, Done, IsDone, alone, whole}
pub use Rattle.inodes_on_blocks.specs.Owners.{Owners, bits_put, inode_put, is_named, named_of, owners_put}
pub use Rattle.inodes_on_blocks.specs.Storing.{put_record, record_in, store}
pub use Rattle.std.proofs.Common.{length-take, max, rules, w16}
pub use Rattle.std.specs.List.{Contains, position_from}
pub use Rattle.fs_machine.proofs.Keeping.{keeps_whole}
pub use Rattle.fs_machine.proofs.Places.{all_placed_set, change_set, found, length-change_at, none_passes, placed, position_none}
pub use Rattle.image_tree.proofs.Nodes.{directory_from, directory_is, node_from, node_is, numbers_by_node}
pub use Rattle.inode_machine.specs.Exec.{with_record, wrote_in}
pub use Rattle.inodes_on_blocks.specs.Accounts.{Accounts, IsSpent, LeavesGroup, RoomLaws, TransactionsHaveRoom, recorded_in, used}
pub use Rattle.inodes_on_blocks.specs.Running.{HasOwners, IsRunning, IsTreeOf, left_in}
pub use Rattle.fs_machine.proofs.Owned.{leaves_own}
pub use Rattle.inode_data.specs.Writing.{front_of, locate_at, locate_in_table, name_direct, put_part, store_written, with_address, with_part, with_table, write_in}
pub use Rattle.tree_laws.specs.WellFormed.{IsInOrder, Slots, has_up, past, up_in}
unfoldable pub use Rattle.tree_laws.specs.WellFormed.{children, count_in, mentions}
pub use Rattle.fs_layout.proofs.Overwrites.{length-overwrite}
pub use Rattle.fs_machine.specs.Own.{Own}
pub use Rattle.image_tree.specs.Inodes.{indirect_numbers}
pub use Rattle.inode_machine.specs.Budget.{with_number}
pub use Rattle.inodes_on_blocks.specs.Seen.{AreSeen, AreSeenAlike, IsGoodSeen, IsRecoveredSo, IsSeenPut, is_in_log}
unfoldable pub use Rattle.inodes_on_blocks.specs.Seen.{seen_blocks}
pub use Rattle.fs_machine.proofs.Showing.{put_shows, shows_its_puts}
pub use Rattle.fs_machine.specs.Tables.{at_descriptor, if_there, is_directory_of, owed, with_desk}
pub use Rattle.image_tree.proofs.MarkLemmas.{front_once, once_nil}
pub use Rattle.image_tree.proofs.NumberLists.{All-addrs, numbers_by_free, numbers_with, numbers_without}
pub use Rattle.inode_data.specs.Widths.{direct}
pub use Rattle.inode_machine.proofs.Frame.{Ours, files_then, has_inode, kept_here, kept_is, not_ours, one_refs, ours_none, ours_some, put_elim, two_refs}
pub use Rattle.inode_machine.proofs.Rules.{opens_slots}
pub use Rattle.inodes_on_blocks.specs.ImageLaws.{IsImageOf}
pub use Rattle.inodes_on_blocks.specs.Naming.{clear, clear_in, clear_slot, put_named, slot_found}
pub use Rattle.inodes_on_blocks.specs.Reading.{face_in, learned, looked, natural, number_found, search_entries, seen_record, inode_type_at, stat_file, stat_loaded, stat_locked, take as take_inode}
pub use Rattle.inodes_on_blocks.specs.Spending.{ActsWithin, DoesItWithin, LeadsTo, NoMore, ProgramsSpend, ProgramsStayWithin, RecordingsStayWithin, Records, Spends, recorded_blocks}
pub use Rattle.std.proofs.lemmas.List.Elements.{All-cons, All-head, All-nil, All-replicate, All-tail, Contains-append_cases}
pub use Rattle.std.specs.Prelude.{position}
pub use Rattle.fs_layout.proofs.Entries.{length-spell_dirent}
pub use Rattle.fs_machine.proofs.Counting.{at_set, counted_good, uncounted_good}
pub use Rattle.fs_machine.proofs.Owning.{SameFor, count_first, count_snoc, free_not_held, same_after}
pub use Rattle.inode_data.proofs.ContentFronts.{block_there, drop_of_take, length-front, part_then, side_by_side}
unfoldable pub use Rattle.inode_data.proofs.ContentFronts.{front}
pub use Rattle.inode_data.specs.Freeing.{free_in_table, free_table}
pub use Rattle.inode_table.specs.Programs.{give_back, put_inode}
pub use Rattle.inodes_on_blocks.specs.Entering.{dots, enter, entered_to, fill, filled_to, if_none, look_last, put_grown}
unfoldable pub use Rattle.inodes_on_blocks.specs.Entering.{search_full}
pub use Rattle.inodes_on_blocks.specs.Handlers.{Acts, Handler, acts, cause_if, cause_of, check_file, close, double, doubled_to, down, forget, give, had_of, install, is_dying, is_listed, join, join_file, joining_to, leave, lend, lend_directory, lent_to, old_directory, one, release, say, shut_to, slot, up_start, walk_down, with_dying}
pub use Rattle.inodes_on_blocks.specs.Making.{HasInodes, IsMade, answers, claim, claim_at, claim_in, claim_mark}
unfoldable pub use Rattle.inodes_on_blocks.specs.Making.{claim_from}
pub use Rattle.inodes_on_blocks.specs.TableLaws.{ChildrenAreReleased, DescriptorsAreDoubled, DescriptorsAreGiven, DescriptorsAreShut, DescriptorsNameFiles, DirectoriesAreGiven, DirectoriesAreSettled, DirectoriesAreStarts, FilesAreLocked, FilesAreLockedToRead, FilesAreOpened, FitsRead, FitsStat, FreshTablesShow, LocksAreGiven, LocksAreTaken, MayDie, OffsetsAreMoved, PlacesAreTaken, ReferencesAreDropped, StartsAreCounted, TablesCountReferences, WalksDropReferences, load_after, load_locked}
pub use Rattle.tree_laws.proofs.Maps.{any_same}
pub use Rattle.tree_laws.proofs.Nodes.{everywhere}
pub use Rattle.fs_machine.proofs.Beginning.{begun_good, free, up_begun, up_counted, up_full}
pub use Rattle.fs_machine.specs.Files.{freed_at, has_more, is_at as is_place, with_place}
pub use Rattle.image_tree.specs.Links.{slot_names}
pub use Rattle.inode_data.proofs.ReadLaw.{next_between, none_between, some_between}
pub use Rattle.inode_machine.proofs.Handings.{NextUsed, next_is, next_past}
pub use Rattle.inodes_on_blocks.specs.Emptying.{empty, give_content}
pub use Rattle.inodes_on_blocks.specs.Files.{file_locked, give_read, lock_open, open_locked, read_file}
pub use Rattle.inodes_on_blocks.specs.Writing.{deny_write, give_written, refused_in, write_file, write_unless}
pub use Rattle.std.proofs.lemmas.Int.{ints}
pub use Rattle.std.proofs.lemmas.Iterator.Adapters.{position_from-zero}
pub use Rattle.tree_laws.proofs.Sums.{count_nil}
pub use Rattle.atomic_programs.proofs.Spending.{Wp-tracks}
pub use Rattle.atomic_programs.specs.Joined.{act_places, seen_after}
pub use Rattle.atomic_programs.specs.Spending.{Leads}
pub use Rattle.bitmap_alloc.proofs.OneBit.{clears_one, sets_one}
pub use Rattle.buffer_cache.proofs.Blocks.{seat_new_here}
pub use Rattle.buffer_cache.proofs.Firsts.{first_counted}
pub use Rattle.buffer_cache.proofs.Sound.{sound_unused}
pub use Rattle.fs_layout.proofs.Inodes.{length-spell_dinode}
pub use Rattle.fs_layout.proofs.Numbers.{length-u32_bytes, u32_at-lt, u32s_at-bytes}
pub use Rattle.fs_layout.proofs.RecoveredDisk.{length-logged, place_of_cases}
pub use Rattle.fs_layout.proofs.Words.{u32s_at-write}
pub use Rattle.fs_layout.specs.Widths.{addresses, inode_len}
pub use Rattle.fs_machine.proofs.Dying.{drop_counted, drop_dies, walked_counted, walked_kept}
pub use Rattle.fs_machine.proofs.Locking.{lock_good, lock_ran}
pub use Rattle.fs_machine.proofs.Making.{fresh_good}
pub use Rattle.fs_machine.proofs.Waits.{waits_where_it_may}
pub use Rattle.fs_machine.specs.Fresh.{fresh_desk}
pub use Rattle.fs_machine.specs.Inodes.{mode_refuses, settled, unlocked_in}
pub use Rattle.fs_machine.specs.Limits.{desk_count, file_places}
pub use Rattle.fs_machine.specs.Programs.{most_writes}
pub use Rattle.fs_machine.specs.Steps.{ClaimResult, NoInode, NoPlace}
pub use Rattle.group_log.proofs.Fresh.{seen_on_disk}
pub use Rattle.image_tree.proofs.LinkLemmas.{no_directory_zero, up_none}
pub use Rattle.image_tree.proofs.Views.{checks_see_recovered, trees_see_recovered}
pub use Rattle.image_tree.specs.Images.{UpToSlots}
pub use Rattle.inode_machine.proofs.Dups.{renewed_same}
pub use Rattle.inode_machine.proofs.Freeing.{lone_file}
pub use Rattle.inode_machine.proofs.Numbers.{Number as Numbered, found_number, start_is_number}
pub use Rattle.inode_machine.proofs.Rest.{idle_at_rest, rests}
pub use Rattle.inode_machine.proofs.Rows.{below_is}
pub use Rattle.inode_machine.proofs.Stats.{node_there}
pub use Rattle.inode_machine.proofs.Tables.{lowest_free, users_put}
pub use Rattle.inode_machine.proofs.Turnings.{serving_none}
pub use Rattle.inode_machine.specs.Marks.{with_left, with_noted, with_opened}
pub use Rattle.inode_machine.specs.Rules.{LendsNone, Serves}
pub use Rattle.inode_table.proofs.Stored.{stores_one}
pub use Rattle.inode_table.specs.NewInodes.{is_free_in}
unfoldable pub use Rattle.inode_table.specs.NewInodes.{free_among}
pub use Rattle.inodes_on_blocks.specs.Counted.{ReferencesAreCounted, WaitsForOthers}
pub use Rattle.inodes_on_blocks.specs.Mounted.{IsMountable, MountsShowTheirTrees, first_world, mounted, resting_log}
pub use Rattle.inodes_on_blocks.specs.QuietWorlds.{IsQuiet, QuietWorldsAreImages, RestingWorldsAreImages}
pub use Rattle.inodes_on_blocks.specs.Taking.{BlocksAreTaken, ChangesStill, TookOne}
pub use Rattle.plain_tree.proofs.PathLemmas.{same_pointwise}
pub use Rattle.plain_tree.proofs.TreeLemmas.{put_again}
pub use Rattle.plain_tree.specs.declared.answer.Cause.TheVariants.{BadDescriptor, BadOffset, NoDriver, TooBig}
pub use Rattle.std.proofs.Math.Facts.{Fits-of_lt, sfits_to_z}
pub use Rattle.std.proofs.lemmas.Nat.{and_le_l, or_of_8}
pub use Rattle.std.proofs.lemmas.Option.{slice_get_past}
pub use Rattle.std.specs.Int.{byte_at}
pub use Rattle.tree_laws.proofs.Facts.{entry_linked}
pub use Rattle.tree_laws.proofs.Reached.{reached}
pub use Rattle.tree_laws.proofs.Slots.{same_is, same_self, slot_here, slot_nil, slot_none, slot_past}
pub use Rattle.buffer_cache.specs.declared.got.Got.{Got}
pub use Rattle.fs_layout.specs.declared.entry.Dirent.TheVariants.{Free}
pub use Rattle.group_log.specs.declared.log.AfterLeave.{AfterLeave}
pub use Rattle.group_log.specs.declared.phase.Phase.TheVariants.{Installing, Staging}
pub use Rattle.inode_data.specs.declared.addresses.Address.{Address}
pub use Rattle.inode_data.specs.declared.addresses.Address.TheVariants.{Direct, InTable}
pub use Rattle.inode_data.specs.declared.locate.Located.{Located}
pub use Rattle.plain_tree.specs.declared.step.Action.{Action}
pub use Rattle.plain_tree.specs.declared.step.Action.TheVariants.{Bump, Chdir, Close, Dup, Enter as EnterStep, Find, Fstat, Inherit, Mkdir, Open as OpenStep, Read as ReadStep, Truncate, Unbump, Unlink, WritePart}
pub use Rattle.plain_tree.specs.declared.tree.Hart.{Hart}
pub use Rattle.fs_machine.specs.InMemory.{IndexState, Loaded, no_index, unindexed}
pub use Rattle.inodes_on_blocks.specs.Indexes.{IsIndexOf, slot_read}
pub use Rattle.directory.specs.Indexes.{IsIndex}
pub use Rattle.directory.proofs.IndexChanges.{index_none, index_same}
pub use Rattle.inodes_on_blocks.specs.Storing.{index_in, loaded_in as had_in, recorded_in as recorded_had}

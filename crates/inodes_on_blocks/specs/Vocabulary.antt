-- What the crates below call things: the words that this crate's definitions and contracts use.
pub use Rattle.image_tree.specs.Vocabulary.{IsOutsideLog, bit_of, block_at, block_len, dinode_at, inodes_per_block, numbers_in, super_block, super_magic_at}
pub use Rattle.image_versions.specs.Versions.{dirent_len_of, dirents_per_block_of, magic_of, new_directory_size_of}
pub use Rattle.image_versions.specs.declared.version.Version.{Version}
pub use Rattle.fs_layout.specs.Recovered.{version_in}
unfoldable pub use Rattle.image_tree.specs.Vocabulary.{logged, recovered, sizes_of, u32_at}
pub use Rattle.fs_machine.specs.Vocabulary.{ExecResult, Do, HasRoom, IsHome, IsMember, Prog, Ran, Ret, SeatState, SlotState, Stops, Waits, count_of, has, holder_of, is_held_by, joined as joined_count, kept, once, option_map, seen_in, unmarked, unwrap_or}
pub use Rattle.inode_data.specs.Vocabulary.{Answer, Counts, Dies, DroppedState, Freed, Held, Keeps, Put, bind, fetch, free_block, inode_block, numbers_per_block, overwrite, store as store_inode, take_block}
pub use Rattle.inode_machine.specs.Vocabulary.{Machine, Name, Tree, all_slots, descriptor_count, dot, dotdot, hart_count, is_live, root, tree_of}
unfoldable pub use Rattle.inode_machine.specs.Vocabulary.{any_below, one_if, put, same_name, settle}
pub use Rattle.directory.specs.Vocabulary.{FetchedBlock, IsDirent, WriteResult, fetch_block, most_blocks, spell_dirent, write_part}
pub use Rattle.inode_table.specs.Vocabulary.{Claims, IsDinode}
pub use Rattle.atomic_programs.specs.Joined.{Act, Below, Both, Handover, Lasts, LowerLayer, holding, joined}
pub use Rattle.image_tree.specs.Checks.{IsData, IsGoodSuper, is_marked, largest_size}
pub use Rattle.inode_machine.specs.Inodes.{AtEntries, AtName, AtNothing, Face, OfDevice, OfDirectory, OfFile, Query, Sight, InodeType}
pub use Rattle.block_device.specs.Blocks.{HasBytes, HasWholeBlocks}
pub use Rattle.fs_machine.specs.LogPart.{LogPart, Outside, put_block}
pub use Rattle.inode_machine.specs.Rules.{Asks, Idle, Inv, KeepsFiles, if_kept, is_hart, more, own_of}
pub use Rattle.fs_machine.specs.Shown.{seen_of}
pub use Rattle.image_tree.specs.Images.{IsWellFormed, UpToLog, node_of, slots_of, tree_in}
unfoldable pub use Rattle.image_tree.specs.Trees.{node_of as node_by}
pub use Rattle.inode_machine.specs.World.Op.{CheckFile, Claim, Clear, Double, Down, Empty, Enter, Fill, Forget, Free, UnlockInode, Install, Join, JoinFile, Leave, Lend, LendDirectory, LockFile, LockOpen, ReadFile, Release, Say, SetDirectory, Shut, Slot, StatFile, Store, Take, Up, UpStart, WalkDown, WriteFile}
pub use Rattle.atomic_programs.specs.Logic.{Wp}
pub use Rattle.fs_machine.specs.Tables.{TablesState, file_named, holder_in, holder_of as lock_holder, place_of, references_in}
pub use Rattle.image_tree.specs.Inodes.{block_number, content_of, direct, is_block, is_free, is_number, last, named_by}
unfoldable pub use Rattle.image_tree.specs.Inodes.{inode_of, numbers_by, numbers_of}
pub use Rattle.inode_machine.specs.Budget.{Spent, most_recorded, size, spent_after, unspent, with_bitmap, with_contents, with_record}
pub use Rattle.inode_machine.specs.World.{Desk, Entry, Lent, LoanResult, LockResult, LocksIt, Moved, NotLocked, Refused as Stopped, Room, Short, Whole, World, Wrote}
pub use Rattle.inode_table.specs.Programs.{load_unless, no_record}
unfoldable pub use Rattle.inode_table.specs.Programs.{with_dinode}
pub use Rattle.directory.specs.Programs.{Named, Searched, Unused, is_directory, look_at, lookup, most_slots, or_next, search, slot_count, with_slot}
unfoldable pub use Rattle.directory.specs.Programs.{found_in, with_dirent}
pub use Rattle.directory.specs.declared.found.Found.{Found}
pub use Rattle.fs_layout.specs.Bytes.{IsBytes}
pub use Rattle.fs_machine.specs.Inodes.{LockedState, Locks, Refuses, dead_of, refusal_of}
unfoldable pub use Rattle.fs_machine.specs.Inodes.{drop_inode, drop_walked, lock_file, lock_inode, settle_inode, unlock_inode, up_directory, up_inode}
pub use Rattle.fs_machine.specs.Fresh.{fresh}
pub use Rattle.fs_machine.specs.Steps.{Commit, Lock, Number, Op, State, Walked, Whom}
pub use Rattle.fs_machine.specs.declared.files.Refused.{Refused}
pub use Rattle.fs_machine.specs.declared.slots.Doubled.{Doubled}
pub use Rattle.fs_machine.specs.declared.slots.Given.{Given}
pub use Rattle.image_tree.specs.Lists.{IsOnce, times}
pub use Rattle.inode_data.specs.Freeing.{free_indirect, free_numbers, freed, without_content}
pub use Rattle.inode_machine.specs.Exec.{entry_of, exec, file_count, is_at, is_dead, read_refused, released, slot_at, start_number, with_offset, write_refused}
pub use Rattle.inode_machine.specs.Theory.{at_rest}
pub use Rattle.plain_tree.specs.Explains.{IsNamedPart}
pub use Rattle.atomic_programs.specs.Spending.{Budget}
unfoldable pub use Rattle.bitmap_alloc.specs.Bytes.{with_bit, without_bit, zeros}
pub use Rattle.buffer_cache.specs.Limits.{buffer_count}
unfoldable pub use Rattle.buffer_cache.specs.Seats.{unused_from}
pub use Rattle.directory.specs.Entering.{slot_for}
pub use Rattle.fs_layout.specs.Super.{super_fields}
unfoldable pub use Rattle.fs_machine.specs.Files.{double_descriptor, give_next, open_file, shut_descriptor, take_place}
unfoldable pub use Rattle.fs_machine.specs.Premises.{May, MayWait}
pub use Rattle.fs_machine.specs.Programs.{after_leave}
pub use Rattle.fs_machine.specs.Soundness.{IsSoundTables}
pub use Rattle.fs_machine.specs.Waiting.{IsCounted}
pub use Rattle.fs_machine.specs.Whole.{After, IsWholeLog}
pub use Rattle.fs_machine.specs.declared.files.FilePlace.{FilePlace}
pub use Rattle.fs_machine.specs.declared.files.FilePlace.TheVariants.{Taken}
pub use Rattle.fs_machine.specs.declared.files.NewFile.{NewFile}
pub use Rattle.fs_machine.specs.declared.slots.Shut.{Shut as ShutState}
pub use Rattle.group_log.specs.Soundness.{IsPlaced}
pub use Rattle.inode_data.specs.Addresses.{table_of}
pub use Rattle.inode_data.specs.Programs.{FilledMemory, blocks_between, read_from}
pub use Rattle.inode_data.specs.Widths.{most_bytes}
pub use Rattle.inode_data.specs.Writing.{grown}
unfoldable pub use Rattle.inode_data.specs.Writing.{write_blocks}
pub use Rattle.inode_machine.specs.Marks.{go}
pub use Rattle.inode_table.specs.NewInodes.{free_in, inode_blocks, new_record}
unfoldable pub use Rattle.tree_laws.specs.WellFormed.{raises}
pub use Rattle.fs_layout.specs.declared.entry.Dirent.{Dirent}
pub use Rattle.fs_layout.specs.declared.entry.Dirent.TheVariants.{Used}
pub use Rattle.fs_layout.specs.declared.inode.Dinode.{Dinode}
pub use Rattle.fs_layout.specs.declared.superblock.Super.{Super}
pub use Rattle.fs_machine.specs.InMemory.{IndexState, Inode, Loaded, unindexed}
unfoldable pub use Rattle.directory.specs.Indexes.{IsIndex, cleared, first_of, raised, with_entry}
pub use Rattle.group_log.specs.declared.log.AfterLeave.TheVariants.{Commits}
pub use Rattle.group_log.specs.declared.phase.Phase.{Phase}
pub use Rattle.group_log.specs.declared.phase.Phase.TheVariants.{Halted, Open}
pub use Rattle.plain_tree.specs.declared.answer.Cause.{Cause}
pub use Rattle.plain_tree.specs.declared.node.NodeKind.{NodeKind}
pub use Rattle.plain_tree.specs.declared.node.NodeKind.TheVariants.{Device, Directory, File}
pub use Rattle.plain_tree.specs.declared.node.Node.{Node}
pub use Rattle.plain_tree.specs.declared.node.Slot.{Slot as DirectorySlot}
pub use Rattle.plain_tree.specs.declared.tree.Hold.{Hold}
pub use Rattle.plain_tree.specs.declared.tree.OpenFile.{OpenFile}

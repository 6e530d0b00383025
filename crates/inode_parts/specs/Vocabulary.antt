-- What the crates below call things: the words that this crate's definitions and contracts use.
pub use Rattle.inodes_on_blocks.specs.Vocabulary.{AtEntries, AtName, AtNothing, Claim, Do, Empty, FilledMemory, Handover, LockFile, LockOpen, LockedState, Locks, Name, Named, Query, ReadFile as Reads, Refuses, Ret, Sight, StatFile as Stats, Store, Take, WriteFile as Writes, WriteResult, bind, descriptor_count, inode_block, inode_blocks, is_free, is_number, lookup, most_bytes, most_slots, option_map, root, unmarked}
unfoldable pub use Rattle.inodes_on_blocks.specs.Vocabulary.{put, same_name}
pub use Rattle.inode_data.specs.Vocabulary.{CanDo, Goes, GuardState, IsAfter, IsLoadedAt, MatchOption, P, Prepared, RecordReady, asks, bare, bits_per_block, inode_at, inode_in, left_after, number_in, op_in, option_map_or, record_asked, record_in, record_left, record_of, record_place, record_seat, unloaded, with_buffer}
unfoldable pub use Rattle.inode_data.specs.Vocabulary.{answer_in}
pub use Rattle.whole_calls.specs.Vocabulary.{count_in, file_for, has, name_in, op_in as above_op, piece, piece_len, program, reply_to, type_of}
pub use Rattle.directory.specs.Vocabulary.{IfBegun, IsName, WriteReady, begun_of, write_asked, write_left}
pub use Rattle.file_table.specs.Vocabulary.{beside_lock}
pub use Rattle.inode_data.specs.Emptying.{HasNoBuffer, IsEmptying, TruncateReady, emptying_of, truncate_asked, truncate_left}
pub use Rattle.inodes_on_blocks.specs.Lowering.{Apart, Carry, Emptied, Finds, Had, Has, NothingMore, Opened, below, nothing}
pub use Rattle.fs_machine.specs.Hands.{first_listed, index_at, indexed, no_inode, number_at, reference_at, with_aside, with_first, with_index, with_inode, with_listed, with_record, with_reference, with_seated, with_txn}
pub use Rattle.fs_machine.specs.Empty.{IsEmpty}
pub use Rattle.inode_machine.specs.World.{Answer, Free, Op as OpAbove}
pub use Rattle.inodes_on_blocks.specs.Handlers.{cause_if, cause_of, doubled_to, is_dying, is_listed, old_directory, shut_to, with_dying}
pub use Rattle.path_walk.specs.Asks.{answer_to, query_in, sight_in}
pub use Rattle.whole_calls.specs.Wholes.{HasRoomFor, IsCall, WholeFits, call_in, first_in, second_in, text_in, whole_of}
pub use Rattle.file_table.specs.LockingFiles.{FileReady, HasInodeBlocks, OpenReady, file_asked, file_left, file_seat, open_asked, open_left, open_seat}
pub use Rattle.fs_machine.specs.declared.hand.InodePlace.TheVariants.{One, Two}
pub use Rattle.inode_table.specs.LockingInodes.{LockReady, lock_asked, lock_left, lock_loaded, lock_seat}
pub use Rattle.inodes_on_blocks.specs.Reading.{natural, number_found}
pub use Rattle.inodes_on_blocks.specs.ShownTables.{kind_of, new_file}
pub use Rattle.path_walk.specs.declared.asks.Face.{Face}
pub use Rattle.directory.specs.Clearing.{ClearReady, clear_asked, clear_left}
pub use Rattle.directory.specs.EnterParts.{EnterReady, enter_asked, enter_left, enter_seat, entered_as}
pub use Rattle.directory.specs.Entering.{EnteredState}
pub use Rattle.directory.specs.Filling.{FillReady, fill_asked, fill_left}
pub use Rattle.directory.specs.Programs.{Entry, Searched}
unfoldable pub use Rattle.directory.specs.Indexes.{cleared}
pub use Rattle.directory.specs.Searching.{SearchReady, entries, found_with, search_asked, search_left}
pub use Rattle.directory.specs.declared.enter.Room.{Room}
pub use Rattle.directory.specs.declared.enter.Room.TheVariants.{NoBlock, NoSlot, There}
pub use Rattle.directory.specs.declared.fill.Filled.{Filled}
pub use Rattle.fs_machine.specs.Finishing.{FinishReady, finish_asked, finish_left}
pub use Rattle.fs_machine.specs.Limits.{listed_places}
pub use Rattle.fs_machine.specs.Ops.{doubled_by, given_by, joined_by, number_by, refused_by, shut_by, yes_in}
pub use Rattle.inode_data.specs.FreeingInodes.{FreeingReady, freeing_asked, freeing_left, freeing_of}
pub use Rattle.inode_data.specs.PartReading.{ReadReady, filled_to, read_asked, read_count, read_left}
pub use Rattle.inode_data.specs.PartWriting.{IsWithin}
pub use Rattle.inode_data.specs.declared.write_part.WritePart.{WritePart}
pub use Rattle.inode_machine.specs.Rules.{machine}
pub use Rattle.inode_table.specs.Making.{NewReady, beside_new, new_asked, new_left, new_seat, new_value}
pub use Rattle.inode_table.specs.declared.new_inode.Made.{Made}
pub use Rattle.inodes_on_blocks.specs.Programs.{handlers}
pub use Rattle.inodes_on_blocks.specs.Writing.{refused_in}
pub use Rattle.path_walk.specs.Elements.{IsElement, IsInOne}
pub use Rattle.path_walk.specs.declared.asks.Claimed.{Claimed}
pub use Rattle.path_walk.specs.declared.asks.InodeType.{InodeType}
pub use Rattle.path_walk.specs.declared.asks.Wrote.{Wrote}
pub use Rattle.whole_calls.specs.Reads.{read_of}
pub use Rattle.whole_calls.specs.declared.whole.Whole.{Whole}
pub use Rattle.directory.specs.declared.found.Found.{Found}
pub use Rattle.fs_layout.specs.declared.inode.Dinode.{Dinode}
pub use Rattle.fs_layout.specs.declared.superblock.Super.{Super}
pub use Rattle.image_versions.specs.declared.version.Version.{Version}
pub use Rattle.fs_machine.specs.InMemory.{IndexState, Inode, Loaded, no_index, stands_so, unindexed}
pub use Rattle.inode_table.specs.HeldInodes.{loaded_in}
pub use Rattle.fs_machine.specs.declared.files.OpenFile.{OpenFile}
pub use Rattle.fs_machine.specs.declared.hand.Hand.{Hand}
pub use Rattle.fs_machine.specs.declared.hand.Place.TheVariants.{First, Second}
pub use Rattle.fs_machine.specs.declared.hand.InodePlace.{InodePlace}
pub use Rattle.fs_machine.specs.declared.op.Op.{Op}
pub use Rattle.fs_machine.specs.declared.slots.Given.{Given}
pub use Rattle.inode_data.specs.declared.begun.Begun.{Begun}
pub use Rattle.inode_data.specs.declared.write_part.Written.{Written}
pub use Rattle.path_walk.specs.declared.asks.Ask.{Ask}
pub use Rattle.path_walk.specs.declared.asks.Heard.{Heard}
pub use Rattle.path_walk.specs.declared.elements.Element.{Element}
pub use Rattle.plain_tree.specs.declared.answer.Reply.{Reply}
pub use Rattle.plain_tree.specs.declared.call.Call.{Call}

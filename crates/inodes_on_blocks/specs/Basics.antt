-- The words that most of this crate's other definitions use.
pub use Rattle.inodes_on_blocks.specs.Accounts.{Accounts, IsSpent, used}
pub use Rattle.inodes_on_blocks.specs.Acting.{Answers, IsDone, whole}
pub use Rattle.inodes_on_blocks.specs.Below.{World, disk_of, exec, inode_in, log_of, owners_after, tables_of, untyped}
pub use Rattle.inodes_on_blocks.specs.Handlers.{Acts, Handler, P, acts, cause_of, check_file, close, double, down, forget, give, install, join, join_file, leave, lend, lend_directory, one, release, say, settle, slot, up, up_start, walk_down}
pub use Rattle.inodes_on_blocks.specs.Holds.{HasContent, Holds, HoldsAt, IsInode, MarksBlocks, MarksNoOthers, NamesOwned, Nodes, entry_of, owner_in, size_in}
pub use Rattle.inodes_on_blocks.specs.ImageLaws.{IsImageOf}
pub use Rattle.inodes_on_blocks.specs.Lowering.{Apart, Carry, Emptied, Finds, Had, Has, InHand, KeepsGroup, KeepsInode, Kept, Knowledge, Labels, NothingMore, Opened, Same, Stands, below, buffer_in, labelled, nothing, record_had, undertaken}
pub use Rattle.inodes_on_blocks.specs.OnBlocks.{AreOnBlocks, Ghost, is_joined, shown}
pub use Rattle.inodes_on_blocks.specs.Owners.{Owners}
pub use Rattle.inodes_on_blocks.specs.Puts.{Becomes, IsBitPut, IsBytesPut, IsGivenBack, IsInodePut, IsLaidOut, IsNumberPut, IsPut, IsSlotPut, IsSpare, IsTaken, IsUntouched, LeavesOthers, Names, slots_with}
pub use Rattle.inodes_on_blocks.specs.Running.{HasOwners, IsRunning, IsTreeOf, left_in}
pub use Rattle.inodes_on_blocks.specs.Seen.{AreSeen, AreSeenAlike, IsGoodSeen, IsRecoveredSo, IsSeenPut}
unfoldable pub use Rattle.inodes_on_blocks.specs.Seen.{seen_blocks}
pub use Rattle.inodes_on_blocks.specs.Shown.{Shows, TakenShow}
pub use Rattle.inodes_on_blocks.specs.ShownTables.{BothCame, Runs, doubled_as, file_of, given_as, kind_of, loaded, new_file, refused_as, shut_as}
pub use Rattle.inodes_on_blocks.specs.Storing.{index_in, loaded_in, put_record, record_in, recorded_in, store, with_index}
pub use Rattle.inodes_on_blocks.specs.Indexes.{IsIndexOf, slot_read}

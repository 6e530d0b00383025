-- What the crates below call things: the words that this crate's definitions and contracts use.
pub use Rattle.inode_table.specs.Vocabulary.{Answer, Do, FetchReady, Goes, GuardState, IsAfter, MatchOption, P, Prog, Put, Ret, addresses, bare, bind, block_at, block_len, buffer_at, bytes_at, bytes_of, fetch, fetch_asked, fetch_block, fetch_left, fetch_place, inode_at, inode_in, left_after, option_map_or, overwrite, unmarked, with_buffer, with_bytes, with_content}
unfoldable pub use Rattle.inode_table.specs.Vocabulary.{answer_in}
pub use Rattle.fs_machine.specs.Vocabulary.{BufferState, asks}
pub use Rattle.bitmap_alloc.specs.Vocabulary.{Get, Read, bits_per_block}
pub use Rattle.fs_layout.specs.Indirect.{numbers_in}
pub use Rattle.fs_layout.specs.Widths.{number_len, numbers_per_block}
pub use Rattle.fs_machine.specs.declared.hand.Place.TheVariants.{First, Second}
pub use Rattle.inode_table.specs.Programs.{inode_block, record_of, store}
pub use Rattle.inode_table.specs.HeldInodes.{HasBlock, IsLoadedAt, number_in, record_in, unloaded}
pub use Rattle.bitmap_alloc.specs.Programs.{free_block, take_block}
pub use Rattle.fs_machine.specs.Hands.{with_record}
pub use Rattle.fs_machine.specs.Ops.{CanDo, Prepared, op_in}
pub use Rattle.inode_table.specs.StoringRecords.{RecordReady, record_asked, record_left, record_place, record_seat}
pub use Rattle.bitmap_alloc.specs.FreeingBlocks.{FreeReady, free_asked, free_left, free_place}
pub use Rattle.bitmap_alloc.specs.Laws.{Oracle, outcome}
pub use Rattle.bitmap_alloc.specs.Taking.{TakeReady, marks, take_asked, take_left, take_place}
pub use Rattle.bitmap_alloc.specs.declared.free_block.FreeBlock.{FreeBlock}
pub use Rattle.bitmap_alloc.specs.declared.take_block.TakeBlock.{TakeBlock}
unfoldable pub use Rattle.fs_layout.specs.Bytes.{u32_bytes}
pub use Rattle.fs_machine.specs.Fetching.{FetchEnds, block_in, bytes_in}
pub use Rattle.fs_machine.specs.Inodes.{Counts, Dies, DroppedState, Keeps}
pub use Rattle.fs_machine.specs.Steps.{Down, Freed, Held, Unlock}
pub use Rattle.fs_machine.specs.declared.fetch.Fetched.{Fetched}
pub use Rattle.inode_table.specs.Storing.{StoreReady, store_asked, store_left, store_place}
pub use Rattle.fs_layout.specs.declared.inode.Dinode.{Dinode}
pub use Rattle.fs_layout.specs.declared.superblock.Super.{Super}
pub use Rattle.fs_machine.specs.InMemory.{Inode}
pub use Rattle.fs_machine.specs.declared.hand.Hand.{Hand as HandState}
pub use Rattle.fs_machine.specs.declared.hand.Place.{Place}
pub use Rattle.fs_machine.specs.declared.hand.InodePlace.{InodePlace}
pub use Rattle.fs_machine.specs.declared.op.Op.{Op}

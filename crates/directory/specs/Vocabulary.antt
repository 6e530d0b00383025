-- What the crates below call things: the words that this crate's definitions and contracts use.
pub use Rattle.inode_data.specs.Vocabulary.{Answer, CanDo, Do, Goes, IsAfter, MatchOption, Oracle, P, Prepared, Prog, Put, Ret, StoreReady, asks, bare, bind, bits_per_block, block_at, block_len, bytes_at, bytes_of, inode_block, left_after, op_in, outcome, overwrite, store, store_asked, store_left, store_place, unmarked, with_bytes, with_content}
unfoldable pub use Rattle.inode_data.specs.Vocabulary.{answer_in}
pub use Rattle.fs_layout.specs.Entry.{IsDirent, dirent_at, dirent_of, spell_dirent}
pub use Rattle.fs_layout.specs.Name.{IsName}
pub use Rattle.image_versions.specs.Versions.{dirent_len_of, dirents_per_block_of, longest_dirent, longest_name, most_slots_of, name_len_of, new_directory_size_of}
pub use Rattle.image_versions.specs.declared.version.Version.{Version}
pub use Rattle.fs_layout.specs.Widths.{dirent_name_at}
pub use Rattle.fs_layout.specs.declared.entry.Dirent.TheVariants.{Free, Used}
pub use Rattle.inode_data.specs.InHand.{FetchesFirst, HasBlock, NoBuffers, beside_buffers, block_in}
pub use Rattle.inode_data.specs.Widths.{most_blocks}
unfoldable pub use Rattle.fs_layout.specs.Bytes.{u16_at}
pub use Rattle.fs_layout.specs.declared.entry.Dirent.{Dirent}
pub use Rattle.inode_data.specs.Programs.{FetchedBlock, fetch_block}
pub use Rattle.inode_data.specs.Beginnings.{IfBegun, begun_of}
pub use Rattle.inode_data.specs.FetchingBlocks.{block_asked, block_left}
pub use Rattle.inode_data.specs.PartWriting.{WriteReady, write_asked, write_left, written_as}
pub use Rattle.inode_data.specs.Writing.{WriteResult, write_part}
pub use Rattle.bitmap_alloc.specs.First.{first_below}
pub use Rattle.bitmap_alloc.specs.Laws.{recorded}
pub use Rattle.byteorder.specs.Endian.{little_number}
pub use Rattle.inode_data.specs.Locating.{Leaves}
pub use Rattle.inode_data.specs.declared.begun.Begun.{Begun}
pub use Rattle.inode_data.specs.declared.write_part.Written.{Written}
pub use Rattle.plain_tree.specs.Tree.{dot, dotdot}
pub use Rattle.std.specs.Option.{option_map, option_map_or}
pub use Rattle.std.specs.Str.{bytes_eq}
pub use Rattle.fs_layout.specs.declared.inode.Dinode.{Dinode}
pub use Rattle.fs_layout.specs.declared.superblock.Super.{Super}
pub use Rattle.fs_machine.specs.declared.hand.Hand.{Hand}
pub use Rattle.fs_machine.specs.declared.hand.Place.TheVariants.{First}
pub use Rattle.fs_machine.specs.declared.op.Op.{Op}
pub use Rattle.fs_layout.specs.Bytes.{IsBytes, record_at}
pub use Rattle.fs_machine.specs.InMemory.{IndexState, Loaded, index_of, no_index}
pub use Rattle.fs_machine.specs.declared.name_index.IndexedSlot.{IndexedSlot}
pub use Rattle.fs_machine.specs.Hands.{index_at, indexed, no_inode, with_index}
pub use Rattle.fs_machine.specs.declared.hand.InodePlace.{InodePlace}
pub use Rattle.inode_table.specs.HeldInodes.{IsLoadedAt, loaded_in, record_in}

-- What this crate's proofs speak of: its own definitions, and what the crates below and the library call things.
pub use Rattle.inode_data.specs.Vocabulary.{BufferState, Dinode, Do, First, Get, GuardState, HandState as Hand, Inode, Oracle, P, Ret, InodePlace, Second, Super, asks, bind, block_len, bytes_of, fetch, fetch_left, free_block, free_left, number_in, numbers_in, option_map_or, outcome, record_left, store, store_left, take_left, unloaded, unmarked, with_buffer}
pub use Rattle.fs_machine.proofs.Vocabulary.{Bool, List, None, Option, Some, [], ap, arith, cases_eq, cond, get_or, if◌then◌else◌, length, no_inode, option_map, read_unless, refl, slice_index, subst, suc, sym, zero, ℕ, ⊎_elim, ◌++◌, ◌+◌, ◌-◌, ◌<◌, ◌==◌, ◌∙◌, ◌∷◌, ◌≡◌, ◌≢◌, ◌≤◌}
pub use Rattle.fs_layout.proofs.Vocabulary.{append-nil, append_assoc, cases_lt, drop, drop-drop, drop_all, drop_at, get_or-drop, length-append, ne_eqb, take, take-append-le, ◌%◌, ◌*◌, ◌/◌}
pub use Rattle.inode_table.proofs.Vocabulary.{HasOne, fetch_has, first}
pub use Rattle.inode_data.specs.Programs.{FetchedBlock, FilledMemory, blocks_between, end_of, fetch_at, fetch_block, fetch_named, fetch_number, filled_with, give_fetched, next_block, part_of, read_from, read_part}
unfoldable pub use Rattle.inode_data.specs.Programs.{read_blocks}
pub use Rattle.inode_data.specs.declared.locate.Located.{Located}
pub use Rattle.atomic_programs.proofs.Prog.{bind-assoc}
pub use Rattle.inode_data.specs.Writing.{WriteResult, grown, locate, located, look_up, name_in_table, take_one, write_located, write_part}
unfoldable pub use Rattle.inode_data.specs.Writing.{write_blocks}
pub use Rattle.bitmap_alloc.proofs.HasOnes.{free_has, take_has}
pub use Rattle.fs_layout.proofs.Overwrites.{overwrite-overwrite}
pub use Rattle.inode_data.specs.Addresses.{address, table_of}
pub use Rattle.inode_data.specs.Emptying.{beside_emptying, truncate_left}
pub use Rattle.inode_data.specs.FetchingBlocks.{block_left}
pub use Rattle.inode_data.specs.Freeing.{free_numbers}
pub use Rattle.inode_data.specs.FreeingInodes.{beside_freeing, freeing_left}
pub use Rattle.fs_machine.specs.Hands.{index_at, recorded, with_record}
pub use Rattle.fs_machine.specs.InMemory.{Loaded, index_of, stands_so}
pub use Rattle.inode_table.specs.Programs.{no_record}
pub use Rattle.inode_data.specs.Laws.{ReadsTheContent, Shows, number_at}
unfoldable pub use Rattle.inode_data.specs.Laws.{content_block, front_blocks}
pub use Rattle.inode_data.specs.Locating.{locate_left, stage_left}
pub use Rattle.inode_data.specs.Numbers.{IsNext}
pub use Rattle.inode_data.specs.PartReading.{filled_to, read_left}
pub use Rattle.inode_data.specs.PartWriting.{IsPast, after_location, blocks_behind, bytes_left, give_written, next_count, stored, write_left, write_rest, written_so}
pub use Rattle.inode_data.specs.declared.addresses.Address.{Address}
pub use Rattle.inode_data.specs.declared.addresses.Address.TheVariants.{Direct, InTable}
pub use Rattle.inode_data.specs.declared.fetch_block.FetchBlock.{FetchBlock}
pub use Rattle.inode_data.specs.declared.free_inode.FreeInode.{FreeInode}
pub use Rattle.inode_data.specs.declared.locate.Locate.{Locate}
pub use Rattle.inode_data.specs.declared.locate.Stage.{Stage}
pub use Rattle.inode_data.specs.declared.read_part.ReadPart.{ReadPart}
pub use Rattle.inode_data.specs.declared.truncate.Emptying.{Emptying}
pub use Rattle.inode_data.specs.declared.truncate.Truncate.{Truncate}
pub use Rattle.inode_data.specs.declared.write_part.WritePart.{WritePart}
pub use Rattle.inode_data.specs.declared.write_part.Writing.{Writing}
pub use Rattle.inode_table.proofs.HasOnes.{record_has, store_has}
pub use Rattle.inode_table.specs.HeldInodes.{without_content}
pub use Rattle.std.proofs.lemmas.Bool.{le-ltb, lt-ltb}
pub use Rattle.std.proofs.lemmas.List.{drop-append-le, length-drop, length-take, take_all}
pub use Rattle.fs_machine.specs.declared.hand.InodePlace.TheVariants.{One, Two}
pub use Rattle.inode_table.specs.declared.storing_inodes.StoreInode.{StoreInode}

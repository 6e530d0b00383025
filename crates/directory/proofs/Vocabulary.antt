-- What this crate's proofs speak of: its own definitions, and what the crates below and the library call things.
pub use Rattle.inode_data.proofs.Vocabulary.{Bool, Do, FetchedBlock, Get, HasOne, List, None, Option, Oracle, P, Ret, Some, [], address, ap, append_assoc, arith, bind, block_left, cases_eq, cases_lt, drop, drop-drop, drop_at, fetch, fetch_at, fetch_block, fetch_named, fetch_number, first, get_or, get_or-drop, give_fetched, length, length-append, length-take, ne_eqb, numbers_in, option_map, outcome, read_unless, refl, slice_index, store_has, store_left, subst, suc, sym, table_of, take, write_left, zero, ℕ, ⊎_elim, ◌%◌, ◌*◌, ◌++◌, ◌+◌, ◌-◌, ◌/◌, ◌<◌, ◌==◌, ◌∙◌, ◌∷◌, ◌≡◌, ◌≢◌, ◌≤◌}
pub use Rattle.fs_layout.proofs.Vocabulary.{IsBytes, and_parts, drop-take, eq-eqb, eqb, eqb-false, eqb-true, false, free_of, is_zero, length-drop, length-replicate, length-take-le, list_all, little_from-take, little_number, name_of, nat_le, not, position_or_len, record_at, replicate, true, ◌&&◌}
pub use Rattle.fs_layout.specs.Entry.{dirent_at, dirent_of, spell_dirent, used_of}
pub use Rattle.fs_layout.specs.Name.{is_name}
pub use Rattle.image_versions.proofs.Places.{are_words, fill, have_below, hold_most, in_block, in_range, inside, lie_apart, take_blocks, whole_blocks}
unfoldable pub use Rattle.fs_layout.proofs.Vocabulary.{u16_at, u16_bytes}
pub use Rattle.directory.specs.Vocabulary.{IndexState, IndexedSlot, InodePlace, IsName, Loaded, Version, block_len, dirent_len_of, dirents_per_block_of, first_below, longest_dirent, longest_name, most_blocks, most_slots_of, name_len_of, new_directory_size_of, no_index, recorded}
pub use Rattle.directory.specs.Programs.{Aim, Entry, Named, Searched, Unused, block_count, first_in, found_at, look_at, most_slots, or_next, search, slot_count, slots_in}
unfoldable pub use Rattle.directory.specs.Programs.{found_in, search_from, with_dirent}
pub use Rattle.directory.specs.Indexes.{as_read, first_that, found_as, free_below, index_room, kept, on_disk, slots_known, with_block, with_slot_if}
unfoldable pub use Rattle.directory.specs.Indexes.{IsIndex, cleared, first_gap, first_of, placed, raised, used_in, used_upto, with_entry, without}
pub use Rattle.directory.specs.Slots.{AreWords, is_free, is_named, is_used, most_words, word_place}
unfoldable pub use Rattle.directory.specs.Slots.{first_free, first_named, first_used, u64_at}
pub use Rattle.directory.specs.Laws.{AreSlots, FindsNothingInTheDead, FindsTheFirst, IsFirst, PutsOneEntry, Shows, is_sought, number_of, slot_at}
pub use Rattle.fs_layout.proofs.Branches.{which_branch}
pub use Rattle.fs_layout.proofs.Entries.{all-zeros, dirent_of-spell, length-spell_dirent, name_parts, number-part, others_stay, position-zeros, reads_back, spell-dirent_of}
pub use Rattle.std.proofs.lemmas.Bool.{and_from, and_left, and_right, cases_Bool, le-leb, le-ltb, leb-true, lt-leb, lt-ltb, ltb-false, ltb-true, not-true}
pub use Rattle.std.proofs.lemmas.Bool.Decides.{same_from_decides}
pub use Rattle.bitmap_alloc.proofs.First.{FirstIs, first_is, none_below, this_below}
pub use Rattle.bitmap_alloc.specs.Laws.{recording}
pub use Rattle.byteorder.specs.Endian.{little_bytes, little_from}
pub use Rattle.directory.specs.Clearing.{clear_left}
pub use Rattle.directory.specs.EnterParts.{enter_left}
pub use Rattle.directory.specs.Filling.{dots, dots_in, fill_left}
pub use Rattle.plain_tree.specs.Tree.{dot, dotdot}
pub use Rattle.directory.specs.Searching.{beside_index, search_left}
pub use Rattle.fs_machine.specs.Hands.{index_at, indexed}
pub use Rattle.fs_machine.specs.InMemory.{unindexed}
pub use Rattle.inode_data.proofs.Vocabulary.{GuardState, Inode, no_inode, option_map_or}
pub use Rattle.inode_table.specs.HeldInodes.{record_in}
pub use Rattle.inode_table.specs.Programs.{loaded_of, no_record}
pub use Rattle.std.specs.Option.{unwrap_or}
pub use Rattle.directory.specs.declared.clear.Clear.{Clear}
pub use Rattle.directory.specs.declared.enter.Enter.{Enter}
pub use Rattle.directory.specs.declared.fill.Fill.{Fill}
pub use Rattle.directory.specs.declared.found.Found.{Found}
pub use Rattle.directory.specs.declared.search.Search.{Search}
pub use Rattle.fs_layout.proofs.Numbers.{length-u16_bytes, u16_at-lt, u16_at-part, u16_bytes-at}
pub use Rattle.inode_data.proofs.HasOnes.{block_has, write_has}
pub use Rattle.std.proofs.Common.{add-one, add-zero, find, map, take_all, take_at, zero-add}
pub use Rattle.std.specs.List.{insert, remove}
pub use Rattle.std.specs.Prelude.{if◌then◌else◌, min, nat_lt}
pub use Rattle.std.proofs.lemmas.Grind.{same_number_lists}
pub use Rattle.std.proofs.lemmas.List.{append-nil, drop-append-le, drop-replicate, drop_all, drop_more, length-map, get_or-append_right, get_or-replicate, get_or-take, get_or_append_left, get_or_past, replicate-append-replicate, take-append-le, take_more}
pub use Rattle.std.proofs.lemmas.List.Sums.{prefix_len-le-length}
pub use Rattle.std.proofs.lemmas.Slice.Eq.{bytes_eq-Decides}
pub use Rattle.fs_layout.specs.declared.entry.Dirent.{Dirent}
pub use Rattle.fs_layout.specs.declared.entry.Dirent.TheVariants.{Free, Used}
pub use Rattle.fs_layout.specs.declared.inode.Dinode.{Dinode}
pub use Rattle.fs_machine.specs.declared.hand.Hand.{Hand}
pub use Rattle.inode_data.specs.declared.addresses.Address.{Address}
pub use Rattle.inode_data.specs.declared.addresses.Address.TheVariants.{Direct, InTable}

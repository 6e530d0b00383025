-- What the proofs of this crate's functions use: its lemmas, and what they speak of.
pub use Rattle.directory.proofs.Vocabulary.{AreWords, Dinode, IsBytes, FetchedBlock, IndexState, IndexedSlot, List, P, Searched, Some, Unused, [], and_left, and_right, ap, append-nil, append_assoc, arith, cases_eq, cases_lt, dirent_at, dirent_of, drop, drop-replicate, eq-eqb, false, fetch_block, first_that, free_below, get_or, index_at, insert, is_free, is_named, is_used, le-ltb, length, length-append, min, nat_le, nat_lt, ne_eqb, none_below, record_in, refl, search_left, slot_count, slots_known, subst, sym, take, take_all, this_below, write_left, are_words, dirent_len_of, dirents_per_block_of, fill, have_below, hold_most, in_block, in_range, inside, kept, lie_apart, most_blocks, most_slots_of, name_parts, new_directory_size_of, on_disk, slice_index, spell_dirent, take_blocks, true, u16_at-part, Version, whole_blocks, word_place, ℕ, ⊎_elim, ◌&&◌, ◌*◌, ◌++◌, ◌+◌, ◌-◌, ◌/◌, ◌%◌, ◌<◌, ◌∙◌, ◌∷◌, ◌≡◌, ◌≢◌, ◌≤◌}
unfoldable pub use Rattle.directory.proofs.Vocabulary.{first_free, first_gap, first_named, first_of, placed, u16_at, u16_bytes, u64_at, used_in, without}
pub use Rattle.fs_machine.proofs.Vocabulary.{op_in}
unfoldable pub use Rattle.fs_machine.proofs.Vocabulary.{answer_in}
pub use Rattle.directory.specs.Entering.{EnteredState, enter_at, entered_by}
pub use Rattle.inode_data.proofs.Asking.{asks_bind}
pub use Rattle.std.proofs.Common.{below_more}
pub use Rattle.directory.proofs.Cleared.{clear_then, unclear_then}
pub use Rattle.directory.proofs.Named.{named_by_words, unnamed_by_number, unnamed_by_word}
pub use Rattle.directory.proofs.Padded.{first_slot}
pub use Rattle.directory.proofs.Puts.{puts_one}
pub use Rattle.directory.proofs.Raised.{raise_full, raise_whole, slot, used_free, used_one}
pub use Rattle.directory.proofs.SearchSteps.{search_some}
pub use Rattle.directory.proofs.Searches.{dead_finds, finds_first}
pub use Rattle.directory.proofs.SlotRows.{no_slot, gap_ends, gap_goes, gap_stops, placed_ends, placed_goes, placed_stops, that_goes, that_here, without_ends, without_goes, without_stops}
pub use Rattle.directory.proofs.Spelled.{dots_in_front, dots_long, spelled, words_are}
pub use Rattle.directory.proofs.Used.{no_used, used_here}
pub use Rattle.directory.specs.Filling.{dots_in, filled_by}
pub use Rattle.directory.specs.Searching.{search_asked}
pub use Rattle.directory.proofs.Seats.{record_kept}
pub use Rattle.fs_machine.proofs.Goings.{goes_with}

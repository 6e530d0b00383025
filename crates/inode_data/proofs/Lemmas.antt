-- What the proofs of this crate's functions use: its lemmas, and what they speak of.
pub use Rattle.inode_data.proofs.Vocabulary.{BufferState, Dinode, Emptying, GuardState, Inode, IsNext, List, Located, None, Option, P, Ret, Second, Some, WriteResult, after_location, ap, arith, bind, block_left, cases_eq, cases_lt, fetch_left, free_block, free_left, get_or, length, length-take, locate_left, look_up, name_in_table, number_in, numbers_in, record_left, refl, store, subst, sym, take, take_left, truncate_left, ℕ, ⊎_elim, ◌+◌, ◌<◌, ◌∙◌, ◌≡◌, ◌≤◌}
pub use Rattle.inode_data.specs.Vocabulary.{Goes, Place, block_at, bytes_at, fetch_asked, fetch_block, fetch_place, free_asked, free_place, inode_in, record_asked, record_in, record_of, record_place, take_asked, take_place, numbers_per_block}
unfoldable pub use Rattle.inode_data.specs.Vocabulary.{answer_in}
pub use Rattle.fs_machine.proofs.Going.{goes_bind}
pub use Rattle.fs_machine.proofs.Goings.{fetched_goes, goes_to, goes_with, inode-beside, inode-kept, second-kept}
pub use Rattle.inode_data.proofs.NextFree.{none_next, some_next}
pub use Rattle.inode_data.specs.Emptying.{emptying_of, indirect_rest, listed_rest, own_rest, record_rest, truncate_asked}
pub use Rattle.inode_data.specs.Widths.{direct}
pub use Rattle.std.proofs.lemmas.List.{get_or-take, get_or_past}
pub use Rattle.fs_layout.proofs.Numbers.{length-u32s_at}
pub use Rattle.inode_data.proofs.Goings.{freeing-kept, missing, number-kept, record-beside, table_in}
pub use Rattle.inode_data.proofs.PartReadings.{next_read, whole_read}
pub use Rattle.inode_data.proofs.PartWritings.{ends_there, goes_on_so, past_so, stored_so, whole_so}
pub use Rattle.inode_data.proofs.ReadLaw.{reads_content}
pub use Rattle.inode_data.specs.Freeing.{free_in_table, free_table, freed, without_content}
pub use Rattle.inode_data.specs.FreeingInodes.{beside_freeing, store_free}
pub use Rattle.inode_data.specs.Locating.{locate_asked}
pub use Rattle.inode_data.specs.PartReading.{filled_in}
pub use Rattle.inode_data.specs.Writing.{name_direct, with_table}

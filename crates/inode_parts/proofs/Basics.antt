-- The lemmas that most of this crate's other lemmas use.
pub use Rattle.inode_parts.proofs.Afterwards.{load_then}
pub use Rattle.inode_parts.proofs.Amid.{same_inode}
pub use Rattle.inode_parts.proofs.Begins.{gives_ready, lock_is, locked_there}
pub use Rattle.inode_parts.proofs.Besides.{changed_over, indexed_over, locks_over, number_over, record_over, side_over}
pub use Rattle.inode_parts.proofs.Changing.{both_set, changed_same, changes, index_same, index_there, indexes, record_set, rewrites, rewritten_beside, same_record}
pub use Rattle.inode_parts.proofs.Fillings.{blocks_fill, blocks_same, within}
pub use Rattle.inode_parts.proofs.Handing.{beside_aside, beside_buffer, beside_reference, beside_seated, beside_txn, elsewhere, gave, held, listed_so, same_in, still_in}
pub use Rattle.inode_parts.proofs.Locking.{alone_none, had_now, lock_on, lock_over, other_free, other_stays}
pub use Rattle.inode_parts.proofs.Plain.{content_bind, emptied, plain_block, plain_content, plain_fetch, plain_store}
pub use Rattle.inode_parts.proofs.PlainContents.{blocks_few, blocks_full, plain_seek, plain_writes, then_plain}
pub use Rattle.inode_parts.proofs.Sides.{alone_still, had_beside, held_beside, lock_is_of, named_in, none_beside, same_beside}
pub use Rattle.inode_parts.proofs.Telling.{face_same}

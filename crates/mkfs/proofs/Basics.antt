-- The lemmas on which most other lemmas of this crate build.
pub use Rattle.mkfs.proofs.Joins.{used-parts}
pub use Rattle.mkfs.proofs.Lengths.{AreNodes, Fits, blocks-large, blocks-small, inode-spelled, length-bitmap, length-front, length-indirect_block, length-inodes, length-node, length-table, length-zeros}
pub use Rattle.mkfs.proofs.Padding.{length-addrs, length-padded, node_bytes-large, node_bytes-small, whole-front}
pub use Rattle.mkfs.proofs.Pieces.{part-of-part}
pub use Rattle.mkfs.proofs.Places.{block-at, count-there, disk_of, length-disk, log-empty, magic-there, recovered-there, sizes-there}
pub use Rattle.mkfs.proofs.Ranges.{All-range, blocks-of-range, in-range, range-append, range-once}
pub use Rattle.mkfs.proofs.RootBytes.{all_entries, entry-there, free_entries, good-entries, length-all, length-root_content, root-bytes}
pub use Rattle.mkfs.proofs.ShownTrees.{IsRange, Shows, free_inode}

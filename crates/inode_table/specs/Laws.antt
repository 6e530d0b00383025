-- What an inode block has after an inode was stored in it.
use Rattle.std.specs.Prelude.{◌≡◌, ◌≢◌, ◌<◌, ℕ, List, length}
use Rattle.inode_table.specs.Vocabulary.{Dinode, dinode_at, IsDinode, block_len, inodes_per_block}
use Rattle.inode_table.specs.Programs.{place_of, with_dinode}

-- that inode, and the others of the block as they were
abbrev pub StoresOneInode : Type 0
StoresOneInode = (n : ℕ) (d : Dinode) (block : List ℕ) → IsDinode d → length block ≡ block_len
    → (dinode_at (place_of n) (with_dinode n d block) ≡ d)
    × ((q : ℕ) → q < inodes_per_block → q ≢ place_of n → dinode_at q (with_dinode n d block) ≡ dinode_at q block)

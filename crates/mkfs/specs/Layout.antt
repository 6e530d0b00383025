-- The places of the parts of an image that is made, in blocks.
use Rattle.std.specs.Prelude.{ℕ, ◌+◌, ◌-◌, ◌*◌, ◌/◌, nat_lt, if◌then◌else◌, List, length, sum_by}
use Rattle.mkfs.specs.Vocabulary.{Super, Version, block_len, inodes_per_block, dirent_len_of, blocks_for, direct}

-- the first block of the log, and how many blocks the log has
abbrev pub log_start : ℕ
log_start = 2

abbrev pub log_blocks : ℕ
log_blocks = 31

-- the first block of the inodes
abbrev pub inode_start : ℕ
inode_start = log_start + log_blocks

-- how many blocks of inodes there are
abbrev pub inode_blocks : ℕ → ℕ
inode_blocks ninodes = ninodes / inodes_per_block + 1

-- the block of the bitmap: it has one
abbrev pub bitmap_start : ℕ → ℕ
bitmap_start ninodes = inode_start + inode_blocks ninodes

-- the first block of the data
abbrev pub data_start : ℕ → ℕ
data_start ninodes = bitmap_start ninodes + 1

-- the superblock
abbrev pub super_for : Version → ℕ → ℕ → Super
super_for v size ninodes = record {
  version = v;
  size = size;
  nblocks = size - data_start ninodes;
  ninodes = ninodes;
  nlog = log_blocks;
  logstart = log_start;
  inodestart = inode_start;
  bmapstart = bitmap_start ninodes;
}

-- ---- the blocks of a node

-- how many blocks a node of `size` bytes takes: with more than the direct ones also an indirect block
abbrev pub node_blocks : ℕ → ℕ
node_blocks size = blocks_for size + (if nat_lt direct (blocks_for size) then 1 else 0)

-- how many blocks files with these contents take
abbrev pub file_blocks : List (List ℕ) → ℕ
file_blocks contents = sum_by (λ content. node_blocks (length content)) contents

-- the bytes of the root of this version that names this number of files: its entries, "." and ".." among them, up to
-- a whole block
abbrev pub root_size : Version → ℕ → ℕ
root_size v files = block_len * blocks_for (dirent_len_of v * (2 + files))

-- What all versions share: in bytes, if nothing else is said.
use Rattle.std.specs.Prelude.{ℕ, ◌+◌, ◌*◌}

abbrev pub block_len : ℕ
block_len = 1024

-- the most blocks of a disk, so that one bitmap block has the bits of all
abbrev pub most_disk_blocks : ℕ
most_disk_blocks = 8191

-- how many block numbers are in the inode itself
abbrev pub direct : ℕ
direct = 12

-- how many an indirect block has
abbrev pub numbers_per_block : ℕ
numbers_per_block = 256

-- how many an inode has: the direct ones, and that of the indirect block
abbrev pub addresses : ℕ
addresses = direct + 1

-- the most blocks of a node's content
abbrev pub most_content_blocks : ℕ
most_content_blocks = direct + numbers_per_block

-- the greatest size of a node
abbrev pub largest_size : ℕ
largest_size = most_content_blocks * block_len

-- of the inode's number in an entry, before the name
abbrev pub entry_number_len : ℕ
entry_number_len = 2

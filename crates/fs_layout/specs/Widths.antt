-- The widths and the places of the parts of a block, in bytes if nothing else is said.
use Rattle.std.specs.Prelude.{ℕ}
use Rattle.image_versions.specs.Shared as shared

abbrev pub block_len : ℕ
block_len = shared.block_len

abbrev pub number_len : ℕ
number_len = 4

-- how many numbers an indirect block has
abbrev pub numbers_per_block : ℕ
numbers_per_block = shared.numbers_per_block

-- how many bits a bitmap block has
abbrev pub bits_per_block : ℕ
bits_per_block = 8192

-- a superblock's magic number and fields
abbrev pub super_len : ℕ
super_len = 32

abbrev pub super_magic_at : ℕ
super_magic_at = 0

abbrev pub super_size_at : ℕ
super_size_at = 4

abbrev pub super_nblocks_at : ℕ
super_nblocks_at = 8

abbrev pub super_ninodes_at : ℕ
super_ninodes_at = 12

abbrev pub super_nlog_at : ℕ
super_nlog_at = 16

abbrev pub super_logstart_at : ℕ
super_logstart_at = 20

abbrev pub super_inodestart_at : ℕ
super_inodestart_at = 24

abbrev pub super_bmapstart_at : ℕ
super_bmapstart_at = 28

abbrev pub inode_len : ℕ
inode_len = 64

-- how many inodes a block has
abbrev pub inodes_per_block : ℕ
inodes_per_block = 16

-- how many block numbers an inode has
abbrev pub addresses : ℕ
addresses = shared.addresses

abbrev pub inode_kind_at : ℕ
inode_kind_at = 0

abbrev pub inode_major_at : ℕ
inode_major_at = 2

abbrev pub inode_minor_at : ℕ
inode_minor_at = 4

abbrev pub inode_nlink_at : ℕ
inode_nlink_at = 6

abbrev pub inode_size_at : ℕ
inode_size_at = 8

abbrev pub inode_addresses_at : ℕ
inode_addresses_at = 12

abbrev pub dirent_number_at : ℕ
dirent_number_at = 0

abbrev pub dirent_name_at : ℕ
dirent_name_at = 2

-- the code of '/'
abbrev pub slash : ℕ
slash = 47

-- how many blocks a log's head can name
abbrev pub log_head_len : ℕ
log_head_len = 255

abbrev pub log_head_count_at : ℕ
log_head_count_at = 0

abbrev pub log_head_numbers_at : ℕ
log_head_numbers_at = 4

-- the block of the superblock
abbrev pub super_block : ℕ
super_block = 1

-- How much an image and its nodes may have, and what their inodes say.
use Rattle.std.specs.Prelude.{ℕ, ◌+◌, ◌-◌, ◌*◌, ◌^◌, ℤ, pos}
use Rattle.mkfs.specs.Vocabulary.{block_len, direct, most_content_blocks}

-- how many bits a byte has
abbrev pub bits_per_byte : ℕ
bits_per_byte = 8

-- the most inodes: an entry has 16 bits for the number of one
abbrev pub most_inodes : ℕ
most_inodes = 2 ^ 16 - 1

-- how many bytes the blocks have that an inode itself names
abbrev pub direct_len : ℕ
direct_len = block_len * direct

-- the most blocks of a node: those of its content, and the indirect one
abbrev pub most_node_blocks : ℕ
most_node_blocks = most_content_blocks + 1

-- the first file's inode: it follows the root's
abbrev pub first_file : ℕ
first_file = 2

-- the kind that an inode of a directory says, and that of a file
abbrev pub directory_kind : ℤ
directory_kind = pos 1

abbrev pub file_kind : ℤ
file_kind = pos 2

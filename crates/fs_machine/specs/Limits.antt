-- The numbers of the tables, said here once more: a wrong one in the code is refused.
use Rattle.std.specs.Prelude.{ℕ}

-- places for inodes in memory
abbrev pub inode_places : ℕ
inode_places = 50

-- references that a call keeps to its end at most
abbrev pub listed_places : ℕ
listed_places = 128

-- places for open files
abbrev pub file_places : ℕ
file_places = 100

-- desks, one for each hart
abbrev pub desk_count : ℕ
desk_count = 8

-- descriptors of a hart
abbrev pub descriptor_count : ℕ
descriptor_count = 16

-- the root's inode
abbrev pub root : ℕ
root = 1

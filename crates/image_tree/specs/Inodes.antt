-- The inodes of an image: their fields, the blocks that they name, the slots of a directory, the content of a file.
use Rattle.std.specs.Prelude.{ℕ, zero, suc, ◌+◌, ◌-◌, ◌/◌, ◌%◌, ◌==◌, nat_lt, ◌&&◌, not, ℤ, pos, negsuc, Bool, false, if◌then◌else◌, List, [], ◌∷◌, ◌++◌, take, filter, slice_index, Option}
use Rattle.image_tree.specs.Vocabulary.{Version, dirent_len_of, dirents_per_block_of, Dinode, Dirent, numbers_in, block_len, inodes_per_block, dinode_at, dirent_at, recovered, sizes_of}
pub use Rattle.image_versions.specs.Shared.{direct}

unfoldable pub inode_of : List (List ℕ) → ℕ → Dinode
inode_of disk i = dinode_at (i % inodes_per_block) (recovered disk ((sizes_of disk).inodestart + i / inodes_per_block))

-- the number of the last inode
abbrev pub last : List (List ℕ) → ℕ
last disk = (sizes_of disk).ninodes - 1

-- ---- what an inode is

abbrev pub is_number : ℕ → ℤ → Bool
is_number n (pos m) = m == n
is_number n (negsuc m) = false

abbrev pub is_positive : ℤ → Bool
is_positive (pos n) = nat_lt 0 n
is_positive (negsuc n) = false

abbrev pub is_free : Dinode → Bool
is_free d = is_number 0 d.kind

abbrev pub is_directory : Dinode → Bool
is_directory d = is_number 1 d.kind

-- its count is above 0
abbrev pub is_live : Dinode → Bool
is_live d = is_positive d.nlink

-- inode i is one that can be used, and is in use
unfoldable pub is_node : List (List ℕ) → ℕ → Bool
is_node disk i = (nat_lt 0 i && nat_lt i (sizes_of disk).ninodes) && not (is_free (inode_of disk i))

unfoldable pub is_live_directory : List (List ℕ) → ℕ → Bool
is_live_directory disk i = (nat_lt 0 i && nat_lt i (sizes_of disk).ninodes) && (is_directory (inode_of disk i) && is_live (inode_of disk i))

-- ---- the blocks that it names

-- the numbers in its indirect block, if there is one
abbrev pub indirect_numbers : List (List ℕ) → Dinode → List ℕ
indirect_numbers disk d = if slice_index d.addrs direct == 0 then [] else numbers_in (recovered disk (slice_index d.addrs direct))

-- the numbers in an inode, and then those in its indirect block
unfoldable pub numbers_of : List (List ℕ) → Dinode → List ℕ
numbers_of disk d = d.addrs ++ indirect_numbers disk d

-- the number of its block k: after the direct ones a place further, because the indirect block's own number is
-- between
abbrev pub block_number : List ℕ → ℕ → ℕ
block_number numbers k = slice_index numbers (if nat_lt k direct then k else k + 1)

-- block k of its content
unfoldable pub content_block : List (List ℕ) → Dinode → ℕ → List ℕ
content_block disk d k = recovered disk (block_number (numbers_of disk d) k)

-- the numbers in inode i, if it is in use
unfoldable pub numbers_by : List (List ℕ) → ℕ → List ℕ
numbers_by disk i = if is_free (inode_of disk i) then [] else numbers_of disk (inode_of disk i)

-- 0 means no block
abbrev pub is_block : ℕ → Bool
is_block b = not (b == 0)

-- the block numbers that inode i names
abbrev pub named_by : List (List ℕ) → ℕ → List ℕ
named_by disk i = filter is_block (numbers_by disk i)

-- ---- the content

-- how many blocks hold `size` bytes
abbrev pub blocks_for : ℕ → ℕ
blocks_for size = (size + (block_len - 1)) / block_len

-- the first n blocks of its content, one after the other
unfoldable pub front_blocks : List (List ℕ) → Dinode → ℕ → List ℕ
front_blocks disk d zero = []
front_blocks disk d (suc n) = front_blocks disk d n ++ content_block disk d n

-- the bytes of a file
abbrev pub content_of : List (List ℕ) → Dinode → List ℕ
content_of disk d = take d.size (front_blocks disk d (blocks_for d.size))

-- slot s of a directory: None if its bytes are no entry
unfoldable pub slot_at : Version → List (List ℕ) → Dinode → ℕ → Option Dirent
slot_at v disk d s = dirent_at v (s % dirents_per_block_of v) (content_block disk d (s / dirents_per_block_of v))

unfoldable pub first_slots : Version → List (List ℕ) → Dinode → ℕ → List (Option Dirent)
first_slots v disk d zero = []
first_slots v disk d (suc n) = first_slots v disk d n ++ slot_at v disk d n ∷ []

-- the slots of a directory
abbrev pub slots_of : Version → List (List ℕ) → Dinode → List (Option Dirent)
slots_of v disk d = first_slots v disk d (d.size / dirent_len_of v)

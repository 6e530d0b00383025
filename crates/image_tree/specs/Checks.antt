-- What is checked of an image: each check, as it passes. Their order is in Damage.
use Rattle.std.specs.Prelude.{◌≡◌, ◌≢◌, ℕ, ◌+◌, ◌-◌, ◌*◌, ◌/◌, ◌%◌, ◌<◌, ◌≤◌, pos, Bool, true, false, ◌≤ℤ◌, ◌<ℤ◌, List, [], ◌∷◌, slice_index_or, All, Option, Some, None}
use Rattle.image_tree.specs.Vocabulary.{Version, dirent_len_of, magic_of, Super, Dinode, Dirent, Free, Used, u32_at, bit_of, block_len, inodes_per_block, log_head_len, most_disk_blocks, super_block, super_magic_at, block_at, sizes_of, log_count, logged, recovered}
pub use Rattle.image_versions.specs.Shared.{largest_size}
use Rattle.image_tree.specs.Lists.{IsOnce, gathered}
use Rattle.image_tree.specs.Inodes.{inode_of, last, is_directory, is_live, is_node, is_live_directory, numbers_of, numbers_by, named_by, block_number}
use Rattle.image_tree.specs.Links.{slots_in, slot_numbers, slot_names, up, names_of, further_names_of, proper_names_of, children_of, Reaches}

-- ---- 52: the superblock, with the magic number of this version

pub record IsGoodSuper (s : Super) : Type 0 where
  pub size : s.size ≤ most_disk_blocks
  pub logstart : 2 ≤ s.logstart
  pub nlog : 11 ≤ s.nlog
  pub log : s.logstart + s.nlog ≤ s.inodestart
  pub few_inodes : 2 ≤ s.ninodes
  pub many_inodes : s.ninodes ≤ 65535
  pub inodes : s.inodestart + (s.ninodes + (inodes_per_block - 1)) / inodes_per_block ≤ s.bmapstart
  pub bitmap : s.bmapstart + 1 ≤ s.size

abbrev pub HasSuper : Version → List (List ℕ) → Type 0
HasSuper v disk = (u32_at (block_at disk super_block) super_magic_at ≡ magic_of v) × IsGoodSuper (sizes_of disk)

-- ---- 53: the log's head

pub record HasGoodLog (disk : List (List ℕ)) : Type 0 where
  pub count : log_count disk ≤ (sizes_of disk).nlog - 1
  pub room : log_count disk ≤ log_head_len
  pub within : All (λ b. ((sizes_of disk).inodestart ≤ b) × (b < (sizes_of disk).size)) (logged disk)
  pub once : IsOnce (logged disk)

-- ---- 54: types and counts

abbrev pub IsGoodType : Dinode → Type 0
IsGoodType d = (pos 0 ≤ℤ d.kind) × (d.kind ≤ℤ pos 3) × (d.kind ≢ pos 0 → pos 0 ≤ℤ d.nlink)

abbrev pub HasGoodTypes : List (List ℕ) → Type 0
HasGoodTypes disk = (i : ℕ) → 1 ≤ i → i < (sizes_of disk).ninodes → IsGoodType (inode_of disk i)

-- ---- 62: inode 1 is a live directory

abbrev pub HasRoot : List (List ℕ) → Type 0
HasRoot disk = ((inode_of disk 1).kind ≡ pos 1) × (pos 0 <ℤ (inode_of disk 1).nlink)

-- ---- 55: each number that is named is a data block's

abbrev pub IsData : Super → ℕ → Type 0
IsData s b = (s.bmapstart < b) × (b < s.size)

abbrev pub HasGoodNumbers : List (List ℕ) → Type 0
HasGoodNumbers disk =
    (i : ℕ) → 1 ≤ i → i < (sizes_of disk).ninodes → All (λ b. b ≢ 0 → IsData (sizes_of disk) b) (numbers_by disk i)

-- ---- 56: no number is named twice

abbrev pub NamesOnce : List (List ℕ) → Type 0
NamesOnce disk = IsOnce (gathered (named_by disk) (last disk))

-- ---- 57: the bits of the blocks up to the bitmap, and of those that are named

-- the bit of a block in the bitmap
abbrev pub is_marked : List (List ℕ) → ℕ → Bool
is_marked disk b = bit_of (recovered disk (sizes_of disk).bmapstart) b

pub record HasMarks (disk : List (List ℕ)) : Type 0 where
  pub front : (b : ℕ) → b ≤ (sizes_of disk).bmapstart → is_marked disk b ≡ true
  pub named : (i : ℕ) → 1 ≤ i → i < (sizes_of disk).ninodes → All (λ b. b ≢ 0 → is_marked disk b ≡ true) (numbers_by disk i)

-- ---- 58: sizes

pub record IsFittingSize (v : Version) (d : Dinode) : Type 0 where
  pub limit : d.size ≤ largest_size
  -- a live directory has whole slots, and its first two
  pub slots : is_directory d ≡ true → is_live d ≡ true → (2 * dirent_len_of v ≤ d.size) × (d.size % dirent_len_of v ≡ 0)

pub record IsGoodSize (v : Version) (disk : List (List ℕ)) (d : Dinode) : Type 0 where
  pub fits : IsFittingSize v d
  pub named : (k : ℕ) → block_len * k < d.size → block_number (numbers_of disk d) k ≢ 0

abbrev pub HasGoodSizes : Version → List (List ℕ) → Type 0
HasGoodSizes v disk = (i : ℕ) → is_node disk i ≡ true → IsGoodSize v disk (inode_of disk i)

-- ---- 59: the slots of live directories

abbrev pub dot : List ℕ
dot = 46 ∷ []

abbrev pub dotdot : List ℕ
dotdot = 46 ∷ 46 ∷ []

-- used, with the name ".."
abbrev pub IsDotDot : Option Dirent → Type 0
IsDotDot None = ⊥
IsDotDot (Some Free) = ⊥
IsDotDot (Some (Used number name)) = name ≡ dotdot

-- of the slots of directory i, if these numbers are those of nodes
pub record AreGoodSlots (is_node : ℕ → Bool) (i : ℕ) (slots : List (Option Dirent)) : Type 0 where
  pub first : slice_index_or slots 0 None ≡ Some (Used i dot)
  pub second : IsDotDot (slice_index_or slots 1 None)
  -- each is free and all zeros, or used with a name
  pub entries : All (λ slot. slot ≢ None) slots
  pub nodes : All (λ n. is_node n ≡ true) (slot_numbers slots)
  pub names : IsOnce (slot_names slots)

abbrev pub HasGoodSlots : Version → List (List ℕ) → Type 0
HasGoodSlots v disk = (i : ℕ) → is_live_directory disk i ≡ true → AreGoodSlots (is_node disk) i (slots_in v disk i)

-- ---- 60: one tree

pub record IsOneTree (v : Version) (disk : List (List ℕ)) : Type 0 where
  pub root : up v disk 1 ≡ 1
  pub root_unnamed : further_names_of v disk 1 ≡ 0
  -- exactly one slot past the first two names it, and that slot is in the directory of its ".."
  pub named : (i : ℕ) → is_live_directory disk i ≡ true → i ≢ 1 → further_names_of v disk i ≡ 1
  pub proper : (i : ℕ) → is_live_directory disk i ≡ true → i ≢ 1 → proper_names_of v disk i ≡ 1
  pub reaches : (i : ℕ) → is_live_directory disk i ≡ true → Reaches (up v disk) i

-- ---- 61: counts

-- Of an inode: `names` slots of live directories name it, `further` of them past the first two, and it is the ".." of
-- `children` other directories.
pub record IsGoodCount (d : Dinode) (names further children : ℕ) : Type 0 where
  pub file : is_directory d ≡ false → d.nlink ≡ pos names
  pub directory : is_directory d ≡ true → is_live d ≡ true → d.nlink ≡ pos (1 + children)
  pub dead : is_directory d ≡ true → is_live d ≡ false → further ≡ 0

abbrev pub HasGoodCounts : Version → List (List ℕ) → Type 0
HasGoodCounts v disk =
    (i : ℕ) → is_node disk i ≡ true → IsGoodCount (inode_of disk i) (names_of v disk i) (further_names_of v disk i) (children_of v disk i)

-- What a disk holds of the nodes of a running file system, inode by inode. The blocks are read as recovery leaves
-- them: with an empty log, as they are.
--   - nodes   by number: the live ones, and the dead ones (count 0) that something still refers to
--   - owner   by block: the inode that names it, 0 for none
use Rattle.std.specs.Prelude.{◌≡◌, ◌≢◌, ℕ, zero, suc, ◌*◌, ◌<◌, ◌≤◌, ◌≤ℤ◌, pos, Bool, true, false, List, [], ◌∷◌, ◌++◌, length, map, All, Contains, Option, Some, None, if◌then◌else◌, nat_lt}
use Rattle.inodes_on_blocks.specs.Vocabulary.{Dinode, Dirent, Used, Version, block_len, dirent_len_of, sizes_of, version_in, DirectorySlot as Slot, Node, NodeKind, Directory, File, Device, Tree, is_live, raises, IsOnce, times, inode_of, is_free, numbers_of, numbers_by, named_by, last, block_number, content_of, slots_of, IsData, is_marked, largest_size, UpToLog}
use Rattle.fs_layout.specs.declared.entry.Dirent.TheVariants.{Free}

abbrev pub Nodes : Type 0
Nodes = ℕ → Option Node

-- ---- what an inode itself says

-- the type of an inode
abbrev pub type_in : NodeKind → ℕ
type_in (Directory slots) = 1
type_in (File bytes) = 2
type_in (Device major minor size) = 3

abbrev pub size_in : Version → NodeKind → ℕ
size_in version (Directory slots) = dirent_len_of version * length slots
size_in version (File bytes) = length bytes
size_in version (Device major minor size) = size

-- a device's numbers
abbrev pub IsDevice : Dinode → NodeKind → Type 0
IsDevice d (Directory slots) = Unit {0}
IsDevice d (File bytes) = Unit {0}
IsDevice d (Device major minor size) = (d.major ≡ major) × (d.minor ≡ minor)

-- the inode of a node
pub record IsInode (version : Version) (d : Dinode) (v : Node) : Type 0 where
  pub kind : d.kind ≡ pos (type_in v.kind)
  pub count : d.nlink ≡ pos v.count
  pub size : d.size ≡ size_in version v.kind
  pub device : IsDevice d v.kind

-- an inode that nothing refers to: free, or left without a name
pub record IsUnused (d : Dinode) : Type 0 where
  pub low : pos 0 ≤ℤ d.kind
  pub high : d.kind ≤ℤ pos 3
  pub unnamed : d.kind ≢ pos 0 → d.nlink ≡ pos 0

abbrev pub IsRecord : Version → Dinode → Option Node → Type 0
IsRecord version d None = IsUnused d
IsRecord version d (Some v) = IsInode version d v

-- ---- what its blocks say

-- a slot as its bytes are read
abbrev pub entry_of : Option Slot → Option Dirent
entry_of None = Some Free
entry_of (Some s) = Some (Used s.number s.name)

abbrev pub HasContent : List (List ℕ) → Dinode → NodeKind → Type 0
HasContent disk d (Directory slots) = slots_of disk d ≡ map entry_of slots
HasContent disk d (File bytes) = content_of disk d ≡ bytes
HasContent disk d (Device major minor size) = Unit {0}

abbrev pub HasContentOf : List (List ℕ) → Dinode → Option Node → Type 0
HasContentOf disk d None = Unit {0}
HasContentOf disk d (Some v) = HasContent disk d v.kind

-- it is not too large, and each of its blocks is there
pub record HasRoom (disk : List (List ℕ)) (d : Dinode) : Type 0 where
  pub limit : d.size ≤ largest_size
  pub there : (k : ℕ) → block_len * k < d.size → block_number (numbers_of disk d) k ≢ 0

-- a data block, and inode i's
pub record IsOwned (disk : List (List ℕ)) (owner : ℕ → ℕ) (i b : ℕ) : Type 0 where
  pub block : IsData (sizes_of disk) b
  pub owner_is : owner b ≡ i

-- each block that is inode i's is one of these
abbrev pub NamesOwned : List (List ℕ) → (ℕ → ℕ) → ℕ → List ℕ → Type 0
NamesOwned disk owner i numbers = (b : ℕ) → IsData (sizes_of disk) b → owner b ≡ i → Contains numbers b

-- the blocks that inode i names are just its own, each in one place
pub record OwnsBlocks (disk : List (List ℕ)) (owner : ℕ → ℕ) (i : ℕ) : Type 0 where
  pub owned : All (λ b. b ≢ 0 → IsOwned disk owner i b) (numbers_by disk i)
  pub once : IsOnce (named_by disk i)
  pub named : NamesOwned disk owner i (numbers_by disk i)

-- inode i holds this
pub record HoldsAt (disk : List (List ℕ)) (owner : ℕ → ℕ) (i : ℕ) (v : Option Node) : Type 0 where
  pub inode : IsRecord (version_in disk) (inode_of disk i) v
  pub content : HasContentOf disk (inode_of disk i) v
  pub room : is_free (inode_of disk i) ≡ false → HasRoom disk (inode_of disk i)
  pub blocks : OwnsBlocks disk owner i

-- ---- the bits of the blocks up to the bitmap, and of those that are owned

pub record MarksBlocks (disk : List (List ℕ)) (owner : ℕ → ℕ) : Type 0 where
  pub front : (b : ℕ) → b ≤ (sizes_of disk).bmapstart → is_marked disk b ≡ true
  pub owned : (b : ℕ) → IsData (sizes_of disk) b → owner b ≢ 0 → is_marked disk b ≡ true

-- no others of the data blocks, but for these: bits that an image had set and nothing named
pub record MarksNoOthers (disk : List (List ℕ)) (owner : ℕ → ℕ) (left : ℕ → Bool) : Type 0 where
  pub free : (b : ℕ) → IsData (sizes_of disk) b → owner b ≡ 0 → is_marked disk b ≡ left b
  pub apart : (b : ℕ) → owner b ≢ 0 → left b ≡ false

-- ---- all of it

pub record Holds (disk : List (List ℕ)) (nodes : Nodes) (owner : ℕ → ℕ) : Type 0 where
  -- the superblock and the log's head are good
  pub front : UpToLog disk
  pub range : (i : ℕ) (v : Node) → nodes i ≡ Some v → (1 ≤ i) × (i < (sizes_of disk).ninodes)
  pub inodes : (i : ℕ) → 1 ≤ i → i < (sizes_of disk).ninodes → HoldsAt disk owner i (nodes i)
  pub bits : MarksBlocks disk owner

-- ---- the tree

-- a node if it is live, and none else
abbrev pub live_part : Option Node → Option Node
live_part v = if is_live v then v else None

-- the live nodes are those of a tree in which no link under way has raised a count
pub record AreNodesOf (t : Tree) (ninodes : ℕ) (nodes : Nodes) : Type 0 where
  pub numbers : t.ninodes ≡ ninodes
  pub live : (n : ℕ) → live_part (t.nodes n) ≡ live_part (nodes n)
  pub unraised : (n : ℕ) → raises t.holds n ≡ 0

-- the live nodes with numbers below n
unfoldable pub live_nodes : Nodes → ℕ → List (Option Node)
live_nodes nodes zero = []
live_nodes nodes (suc n) = live_nodes nodes n ++ live_part (nodes n) ∷ []

-- ---- an image

-- the last of the inodes up to n that names the block
unfoldable pub owner_upto : (ℕ → List ℕ) → ℕ → ℕ → ℕ
owner_upto named zero b = 0
owner_upto named (suc n) b = if nat_lt 0 (times b (named (suc n))) then suc n else owner_upto named n b

abbrev pub owner_in : List (List ℕ) → ℕ → ℕ
owner_in disk = owner_upto (named_by disk) (last disk)

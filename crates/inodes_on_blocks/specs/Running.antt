-- The blocks of a running file system: each inode holds its node, but for those that a hart is changing in its
-- transaction.
--   - left       by block: a bit that the mounted image had set and that nothing named
--   - changing   by inode: the hart that is changing it, if one is
--   - joined     the harts that are in a transaction
use Rattle.std.specs.Prelude.{◌≡◌, ℕ, ◌<◌, ◌≤◌, Bool, true, ◌&&◌, ◌==◌, List, Option, Some, None}
use Rattle.inodes_on_blocks.specs.Vocabulary.{HasWholeBlocks, sizes_of, Node, Hold, hart_count, Tree, IsData, is_marked, UpToLog}
use Rattle.inodes_on_blocks.specs.Holds.{Nodes, HoldsAt, MarksBlocks, MarksNoOthers, live_part, owner_in}

-- the owner of each data block is an inode, or there is none
abbrev pub HasOwners : List (List ℕ) → (ℕ → ℕ) → Type 0
HasOwners disk owner = (b : ℕ) → IsData (sizes_of disk) b → owner b < (sizes_of disk).ninodes

-- nodes have numbers of inodes
abbrev pub IsInRange : List (List ℕ) → Nodes → Type 0
IsInRange disk nodes = (i : ℕ) (v : Node) → nodes i ≡ Some v → (1 ≤ i) × (i < (sizes_of disk).ninodes)

pub record IsRunning (disk : List (List ℕ)) (nodes : Nodes) (owner : ℕ → ℕ) (left : ℕ → Bool) (changing : ℕ → Option ℕ)
    (joined : ℕ → Bool) : Type 0 where
  -- the superblock and the log's head are good
  pub front : UpToLog disk
  pub whole : HasWholeBlocks disk
  pub range : IsInRange disk nodes
  -- an inode that nobody is changing holds its node
  pub inodes : (i : ℕ) → 1 ≤ i → i < (sizes_of disk).ninodes → changing i ≡ None → HoldsAt disk owner i (nodes i)
  -- the bits set are those of the blocks up to the bitmap, of the owned ones, and those left over
  pub bits : MarksBlocks disk owner
  pub no_others : MarksNoOthers disk owner left
  pub owners : HasOwners disk owner
  -- only a hart in a transaction changes an inode
  pub changes : (i h : ℕ) → changing i ≡ Some h → joined h ≡ true

-- The nodes are those of the tree, and only a hart in a transaction has raised a count for a link that is under way.
pub record IsTreeOf (t : Tree) (ninodes : ℕ) (nodes : Nodes) (joined : ℕ → Bool) : Type 0 where
  pub numbers : t.ninodes ≡ ninodes
  pub live : (n : ℕ) → live_part (t.nodes n) ≡ live_part (nodes n)
  pub raisers : (h : ℕ) (o : Hold) → h < hart_count → t.holds h ≡ Some o → o.raised ≡ true → joined h ≡ true

-- the bits that an image has set for blocks which no inode names
abbrev pub left_in : List (List ℕ) → ℕ → Bool
left_in disk b = is_marked disk b && (owner_in disk b == 0)

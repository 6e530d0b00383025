-- The laws of the blocks of a running file system: what puts keep, and that a quiet one is a well-formed image.
use Rattle.std.specs.Prelude.{◌≡◌, ℕ, ◌<◌, ◌≤◌, Bool, List, Option, Some, None, true, false}
use Rattle.inodes_on_blocks.specs.Vocabulary.{HasWholeBlocks, sizes_of, Node, Tree, put, tree_of, UpToLog, IsWellFormed, node_of, tree_in}
use Rattle.tree_laws.specs.WellFormed as trees
use Rattle.inodes_on_blocks.specs.Basics.{Nodes, HoldsAt, Holds, owner_in, LeavesOthers, IsImageOf, HasOwners, IsRunning, IsTreeOf, left_in}

-- With nobody in a transaction the blocks hold the nodes, and are a well-formed image of the tree.
abbrev pub QuietBlocksAreImages : Type 0
QuietBlocksAreImages =
    (disk : List (List ℕ)) (nodes : Nodes) (owner : ℕ → ℕ) (left : ℕ → Bool) (changing : ℕ → Option ℕ) (joined : ℕ → Bool) (t : Tree)
    → IsRunning disk nodes owner left changing joined → trees.IsWellFormed t → IsTreeOf t (sizes_of disk).ninodes nodes joined
    → ((h : ℕ) → joined h ≡ false)
    → Holds disk nodes owner × IsImageOf disk nodes t

-- A well-formed image is one that runs, with nothing being changed.
abbrev pub ImagesCanRun : Type 0
ImagesCanRun =
    (disk : List (List ℕ)) (joined : ℕ → Bool) → HasWholeBlocks disk → IsWellFormed disk
    → IsRunning disk (node_of disk) (owner_in disk) (left_in disk) (λ i. None) joined
    × IsTreeOf (tree_of (tree_in disk)) (sizes_of disk).ninodes (node_of disk) joined

-- A hart in a transaction may begin to change an inode that nobody is changing.
abbrev pub ChangesMayBegin : Type 0
ChangesMayBegin =
    (disk : List (List ℕ)) (nodes : Nodes) (owner : ℕ → ℕ) (left : ℕ → Bool) (changing : ℕ → Option ℕ) (joined : ℕ → Bool) (i h : ℕ)
    → IsRunning disk nodes owner left changing joined → changing i ≡ None → joined h ≡ true
    → IsRunning disk nodes owner left (put changing i (Some h)) joined

-- Meanwhile its node may be any.
abbrev pub ChangedNodesMayBeAny : Type 0
ChangedNodesMayBeAny =
    (disk : List (List ℕ)) (nodes : Nodes) (owner : ℕ → ℕ) (left : ℕ → Bool) (changing : ℕ → Option ℕ) (joined : ℕ → Bool) (i h : ℕ)
    (v : Option Node)
    → IsRunning disk nodes owner left changing joined → changing i ≡ Some h → 1 ≤ i → i < (sizes_of disk).ninodes
    → IsRunning disk (put nodes i v) owner left changing joined

-- It ends when the inode holds its node again.
abbrev pub ChangesMayEnd : Type 0
ChangesMayEnd =
    (disk : List (List ℕ)) (nodes : Nodes) (owner : ℕ → ℕ) (left : ℕ → Bool) (changing : ℕ → Option ℕ) (joined : ℕ → Bool) (i : ℕ)
    → IsRunning disk nodes owner left changing joined → HoldsAt disk owner i (nodes i)
    → IsRunning disk nodes owner left (put changing i None) joined

-- A put for an inode that is being changed keeps all this. It is a put of its data block, of itself, or of a bit for
-- a block that it takes or gives back.
abbrev pub PutsKeepRunning : Type 0
PutsKeepRunning =
    (disk new : List (List ℕ)) (nodes : Nodes) (owner owner' : ℕ → ℕ) (left : ℕ → Bool) (changing : ℕ → Option ℕ) (joined : ℕ → Bool)
    (i h : ℕ)
    → IsRunning disk nodes owner left changing joined → changing i ≡ Some h → LeavesOthers disk new owner owner' i
    → sizes_of new ≡ sizes_of disk → UpToLog new → HasWholeBlocks new
    → HasOwners new owner' → IsRunning new nodes owner' left changing joined

-- A hart may join, and one that is changing nothing may leave.
abbrev pub OthersMayJoinOrLeave : Type 0
OthersMayJoinOrLeave =
    (disk : List (List ℕ)) (nodes : Nodes) (owner : ℕ → ℕ) (left : ℕ → Bool) (changing : ℕ → Option ℕ) (joined joined' : ℕ → Bool)
    → IsRunning disk nodes owner left changing joined → ((i h : ℕ) → changing i ≡ Some h → joined h ≡ true → joined' h ≡ true)
    → IsRunning disk nodes owner left changing joined'

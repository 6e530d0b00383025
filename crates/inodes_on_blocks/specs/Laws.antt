-- The laws of the nodes on the seen blocks.
use Rattle.std.specs.Prelude.{◌≢◌, ◌<◌, ◌≤◌, slice_set, ◌≡◌, ℕ, true, List, [], length, Option, Some, None}
use Rattle.inodes_on_blocks.specs.Vocabulary.{HasWholeBlocks, block_at, Super, logged, sizes_of, SeatState, seen_in, joined_count as joined, Node, Tree, put, tree_of, IsWellFormed, tree_in}
use Rattle.tree_laws.specs.WellFormed as trees
use Rattle.inodes_on_blocks.specs.Basics.{HoldsAt, IsImageOf, LeavesOthers, HasOwners, IsTreeOf, AreSeenAlike, IsSeenPut, IsRecoveredSo, is_joined, Ghost, shown, AreOnBlocks}

-- With no transaction outstanding the seen blocks are a well-formed image of the tree, and so is each disk that
-- recovery would leave so. A commit that is under way changes nothing that is seen.
abbrev pub QuietBlocksAreImages : Type 0
QuietBlocksAreImages =
    (contents : List (List ℕ)) (seats : List SeatState) (sizes : Super) (members : List (Option ℕ)) (g : Ghost) (t : Tree)
    → AreOnBlocks contents seats sizes members g
    → trees.IsWellFormed t → IsTreeOf t sizes.ninodes g.nodes (is_joined members) → joined members ≡ 0
    → IsImageOf (shown contents seats sizes) g.nodes t
    × ((disk : List (List ℕ)) → length disk ≡ length contents → IsRecoveredSo sizes (seen_in contents seats) disk
    → IsWellFormed disk × (tree_in disk ≡ tree_in (shown contents seats sizes)))

-- Block b is recorded for inode i, which hart h is changing.
abbrev pub RecordsKeepThem : Type 0
RecordsKeepThem =
    (contents : List (List ℕ)) (seats now : List SeatState) (sizes : Super) (members : List (Option ℕ)) (g : Ghost) (owner' : ℕ → ℕ)
    (b i h : ℕ)
    → AreOnBlocks contents seats sizes members g → g.changing i ≡ Some h → IsSeenPut sizes (seen_in contents seats) (seen_in contents now) b
    → LeavesOthers (shown contents seats sizes) (shown contents now sizes) g.owner owner' i → HasOwners (shown contents now sizes) owner'
    → AreOnBlocks contents now sizes members (record g { owner = owner' })

abbrev pub UnseenChangesKeepThem : Type 0
UnseenChangesKeepThem =
    (contents after : List (List ℕ)) (seats now : List SeatState) (sizes : Super) (members : List (Option ℕ)) (g : Ghost)
    → AreOnBlocks contents seats sizes members g
    → length after ≡ length contents → AreSeenAlike sizes (seen_in contents seats) (seen_in after now) (length contents)
    → AreOnBlocks after now sizes members g

-- Hart h is in a transaction from here on, of which k blocks are recorded.
abbrev pub JoinsKeepThem : Type 0
JoinsKeepThem =
    (contents : List (List ℕ)) (seats : List SeatState) (sizes : Super) (members : List (Option ℕ)) (g : Ghost) (h k : ℕ)
    → AreOnBlocks contents seats sizes members g
    → AreOnBlocks contents seats sizes (slice_set members h (Some k)) g

-- It leaves, if it is changing nothing.
abbrev pub LeavesKeepThem : Type 0
LeavesKeepThem =
    (contents : List (List ℕ)) (seats : List SeatState) (sizes : Super) (members : List (Option ℕ)) (g : Ghost) (h : ℕ)
    → AreOnBlocks contents seats sizes members g
    → ((i : ℕ) → g.changing i ≢ Some h) → AreOnBlocks contents seats sizes (slice_set members h None) g

-- Hart h, in a transaction, begins to change inode i, which nobody is changing.
abbrev pub ChangesMayBegin : Type 0
ChangesMayBegin =
    (contents : List (List ℕ)) (seats : List SeatState) (sizes : Super) (members : List (Option ℕ)) (g : Ghost) (i h : ℕ)
    → AreOnBlocks contents seats sizes members g
    → g.changing i ≡ None → is_joined members h ≡ true
    → AreOnBlocks contents seats sizes members (record g { changing = put g.changing i (Some h) })

-- It ends when the inode holds this node, whatever the nodes had for it.
abbrev pub ChangesMayEnd : Type 0
ChangesMayEnd =
    (contents : List (List ℕ)) (seats : List SeatState) (sizes : Super) (members : List (Option ℕ)) (g : Ghost) (i h : ℕ) (v : Option Node)
    → AreOnBlocks contents seats sizes members g
    → g.changing i ≡ Some h → 1 ≤ i → i < sizes.ninodes → HoldsAt (shown contents seats sizes) g.owner i v
    → AreOnBlocks contents seats sizes members (record g { nodes = put g.nodes i v; changing = put g.changing i None })

-- A disk with a well-formed image and nothing in its log, of which the cache has nothing else. Its nodes are on the
-- seen blocks, and nobody is changing one.
abbrev pub MountedNodesAreOnBlocks : Type 0
MountedNodesAreOnBlocks =
    (contents : List (List ℕ)) (seats : List SeatState) (members : List (Option ℕ)) → HasWholeBlocks contents → IsWellFormed contents
    → logged contents ≡ []
    → ((b : ℕ) → seen_in contents seats b ≡ block_at contents b)
    → (g : Ghost) × AreOnBlocks contents seats (sizes_of contents) members g × ((i : ℕ) → g.changing i ≡ None)
    × IsTreeOf (tree_of (tree_in contents)) (sizes_of contents).ninodes g.nodes (is_joined members)

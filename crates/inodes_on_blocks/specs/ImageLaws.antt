-- The laws that join images and plain trees, and which check of an image gives which part of it.
--   - superblock   there are two inodes and more; numbers of nodes are below their number
--   - root         the root is a live directory, and all harts are in it
--   - slots        "." and ".." are in front, no name occurs twice, and slots name nodes alone
--   - one tree     the root is its own ".." and has no other name. Each other live directory has one name, in its
--                  "..". This is a live directory and nearer to the root.
--   - counts       a live directory's is one more than that of the directories in it. Any other node's is that of its
--                  names, so what is dead has none.
--
-- Nothing is open or held in an image's tree, whatever was checked.
use Rattle.std.specs.Prelude.{◌≡◌, ℕ, List}
use Rattle.inodes_on_blocks.specs.Vocabulary.{HasWholeBlocks, sizes_of, Tree, tree_of, IsNamedPart, IsWellFormed, node_of, tree_in}
use Rattle.plain_tree.specs.Fresh.{at_rest}
use Rattle.tree_laws.specs.WellFormed as trees
use Rattle.inodes_on_blocks.specs.Holds.{Nodes, Holds, AreNodesOf, live_nodes, owner_in}

-- An image that passes all checks holds a well-formed tree.
abbrev pub TreesOfImagesAreWellFormed : Type 0
TreesOfImagesAreWellFormed = (disk : List (List ℕ)) → IsWellFormed disk → trees.IsWellFormed (tree_of (tree_in disk))

-- A disk that is an image of a running tree: it passes all checks. What it holds is the tree's live nodes with
-- nothing open and all harts in the root. That is the named part of the running tree, and its own.
pub record IsImageOf (disk : List (List ℕ)) (nodes : Nodes) (t : Tree) : Type 0 where
  pub well_formed : IsWellFormed disk
  pub tree : tree_in disk ≡ at_rest (live_nodes nodes (sizes_of disk).ninodes)
  pub named : IsNamedPart t (tree_of (tree_in disk))
  pub own : IsNamedPart (tree_of (tree_in disk)) (tree_of (tree_in disk))

-- A disk that holds the nodes of a well-formed running tree is an image of it.
abbrev pub HeldTreesAreImages : Type 0
HeldTreesAreImages =
    (disk : List (List ℕ)) (nodes : Nodes) (owner : ℕ → ℕ) (t : Tree) → Holds disk nodes owner → trees.IsWellFormed t
    → AreNodesOf t (sizes_of disk).ninodes nodes → IsImageOf disk nodes t

-- An image that passes all checks holds the nodes of its tree.
abbrev pub ImagesHoldTheirTrees : Type 0
ImagesHoldTheirTrees =
    (disk : List (List ℕ)) → HasWholeBlocks disk → IsWellFormed disk
    → Holds disk (node_of disk) (owner_in disk) × AreNodesOf (tree_of (tree_in disk)) (sizes_of disk).ninodes (node_of disk)

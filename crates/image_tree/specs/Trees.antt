-- The tree that an image holds: its live nodes; no open files, no holds, and all harts in the root.
use Rattle.std.specs.Prelude.{ℕ, zero, suc, ◌&&◌, ℤ, pos, negsuc, Bool, List, [], ◌∷◌, ◌++◌, map, Option, Some, None, if◌then◌else◌}
use Rattle.image_tree.specs.Vocabulary.{Version, Dinode, Dirent, Free, Used, sizes_of, Slot, NodeKind, Directory, File, Device, Node, TreeData, at_rest}
use Rattle.image_tree.specs.Inodes.{inode_of, is_node, is_live, is_number, is_directory, content_of, slots_of}

-- a slot as the tree has it
abbrev pub slot_of : Option Dirent → Option Slot
slot_of None = None
slot_of (Some Free) = None
slot_of (Some (Used number name)) = Some (record { name = name; number = number })

-- a regular file
abbrev pub is_file : Dinode → Bool
is_file d = is_number 2 d.kind

unfoldable pub kind_of : Version → List (List ℕ) → Dinode → NodeKind
kind_of v disk d =
    if is_directory d then Directory (map slot_of (slots_of v disk d))
    else (if is_file d then File (content_of disk d) else Device d.major d.minor d.size)

-- a count, if it isn't below 0
abbrev pub count_of : ℤ → ℕ
count_of (pos n) = n
count_of (negsuc n) = 0

-- node i of the tree, if there is one
unfoldable pub node_of : Version → List (List ℕ) → ℕ → Option Node
node_of v disk i =
    if is_node disk i && is_live (inode_of disk i)
    then Some (record { count = count_of (inode_of disk i).nlink; kind = kind_of v disk (inode_of disk i) })
    else None

-- the nodes with numbers below n
unfoldable pub first_nodes : Version → List (List ℕ) → ℕ → List (Option Node)
first_nodes v disk zero = []
first_nodes v disk (suc n) = first_nodes v disk n ++ node_of v disk n ∷ []

abbrev pub tree_in : Version → List (List ℕ) → TreeData
tree_in v disk = at_rest (first_nodes v disk (sizes_of disk).ninodes)

-- The image that is made: its bytes, one part after another, as those of mkfs.
use Rattle.std.specs.Prelude.{ℕ, ◌+◌, ◌-◌, ◌*◌, min, List, [], ◌∷◌, ◌++◌, length, sum_by}
use Rattle.migration.specs.Vocabulary.{Version, Dinode, spell_dinode, flat_map, range_with_len, addresses, inodes_per_block, padded, free_inodes, zero_blocks, front, bitmap, node_bytes, data_start, inode_blocks, node_blocks}
use Rattle.migration.specs.Nodes.{Node}

-- how many blocks a node takes, its indirect block among them
abbrev pub blocks_of_node : Node → ℕ
blocks_of_node node = node_blocks (length node.content)

-- the inode of a node whose blocks begin at `first`, side by side: the direct ones, the indirect block, and those
-- that it names
unfoldable pub inode_for : ℕ → Node → Dinode
inode_for first node = record {
  kind = node.kind;
  major = node.major;
  minor = node.minor;
  nlink = node.nlink;
  size = length node.content;
  addrs = padded addresses (range_with_len first (min (blocks_of_node node) addresses));
}

-- each node's blocks begin after those of the node before it
abbrev pub inodes_from : ℕ → List Node → List Dinode
inodes_from first [] = []
inodes_from first (node ∷ nodes) = inode_for first node ∷ inodes_from (first + blocks_of_node node) nodes

-- the bytes of the inode blocks: inode 0 is free, and so are those after the last number
unfoldable pub inode_table : ℕ → ℕ → List Node → List ℕ
inode_table ninodes first nodes =
    free_inodes 1 ++ flat_map spell_dinode (inodes_from first nodes)
    ++ free_inodes (inodes_per_block * inode_blocks ninodes - (1 + length nodes))

-- the blocks of all nodes
abbrev pub data_from : ℕ → List Node → List ℕ
data_from first [] = []
data_from first (node ∷ nodes) = node_bytes first node.content ++ data_from (first + blocks_of_node node) nodes

-- the first block that no node has
abbrev pub used_by : ℕ → List Node → ℕ
used_by first nodes = first + sum_by blocks_of_node nodes

-- an image of version v with these nodes, and after them the free blocks
unfoldable pub image_with : Version → ℕ → ℕ → List Node → List ℕ
image_with v size ninodes nodes =
    front v size ninodes
    ++ inode_table ninodes (data_start ninodes) nodes
    ++ bitmap (used_by (data_start ninodes) nodes)
    ++ data_from (data_start ninodes) nodes
    ++ zero_blocks (size - used_by (data_start ninodes) nodes)

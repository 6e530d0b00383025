-- The image of a version that is made: its bytes, one part after another.
use Rattle.std.specs.Prelude.{ℕ, ◌+◌, ◌-◌, ◌*◌, ◌/◌, ◌%◌, ◌^◌, min, nat_lt, if◌then◌else◌, ℤ, pos, List, [], ◌∷◌, ◌++◌, length, take, drop, map, replicate, sum_by}
use Rattle.mkfs.specs.Vocabulary.{flat_map, range_with_len, Dinode, Dirent, Used, Version, spell_dinode, spell_dirent, spell_numbers, spell_super, addresses, block_len, inode_len, inodes_per_block, numbers_per_block, blocks_for, direct, dot, dotdot, root}
use Rattle.mkfs.specs.declared.new_file.NewFile.{NewFile}
use Rattle.mkfs.specs.Layout.{log_blocks, inode_blocks, data_start, super_for, node_blocks}
use Rattle.mkfs.specs.Widths.{bits_per_byte, direct_len, directory_kind, file_kind, first_file}

-- ---- what is given

-- the files' names, and their contents
abbrev pub names_of : List NewFile → List (List ℕ)
names_of files = map (λ (file : NewFile). file.name.items) files

abbrev pub contents_of : List NewFile → List (List ℕ)
contents_of files = map (λ (file : NewFile). file.content.items) files

-- ---- zeros

-- numbers, and zeros after them, n in all
unfoldable pub padded : ℕ → List ℕ → List ℕ
padded n numbers = numbers ++ replicate (n - length numbers) 0

-- bytes, and zeros after them up to a whole block
unfoldable pub whole : List ℕ → List ℕ
whole bytes = padded (block_len * blocks_for (length bytes)) bytes

-- n blocks of zeros
abbrev pub zero_blocks : ℕ → List ℕ
zero_blocks n = replicate (block_len * n) 0

-- n free inodes, all zeros
abbrev pub free_inodes : ℕ → List ℕ
free_inodes n = replicate (inode_len * n) 0

-- ---- the nodes

-- the root, or a file: its inode's kind, and its content
pub record Node : Type 0 where
  pub kind : ℤ
  pub content : List ℕ

-- the files' entries: their inodes are numbered upwards
abbrev pub entries_from : ℕ → List (List ℕ) → List Dirent
entries_from number [] = []
entries_from number (name ∷ names) = Used number name ∷ entries_from (number + 1) names

-- the root's entries: ".", ".." and the files
abbrev pub root_entries : List (List ℕ) → List Dirent
root_entries names = Used root dot ∷ Used root dotdot ∷ entries_from first_file names

-- its content: after the entries zeros, which are free entries, up to a whole block
unfoldable pub root_content : Version → List (List ℕ) → List ℕ
root_content v names = whole (flat_map (spell_dirent v) (root_entries names))

abbrev pub root_node : List ℕ → Node
root_node content = record { kind = directory_kind; content = content }

abbrev pub file_node : List ℕ → Node
file_node content = record { kind = file_kind; content = content }

-- in the order of their inodes: the root with this content, and the files with theirs
abbrev pub nodes_with : List ℕ → List (List ℕ) → List Node
nodes_with content contents = root_node content ∷ map file_node contents

-- how many blocks a node takes, its indirect block among them
abbrev pub blocks_of_node : Node → ℕ
blocks_of_node node = node_blocks (length node.content)

-- ---- the inodes

-- the inode of a node whose blocks begin at `first`, side by side: the direct ones, the indirect block, and those
-- that it names
unfoldable pub inode_for : ℕ → Node → Dinode
inode_for first node = record {
  kind = node.kind;
  major = pos 0;
  minor = pos 0;
  nlink = pos 1;
  size = length node.content;
  addrs = padded addresses (range_with_len first (min (blocks_of_node node) addresses));
}

-- each node's blocks begin after those of the node before it
abbrev pub inodes_from : ℕ → List Node → List Dinode
inodes_from first [] = []
inodes_from first (node ∷ nodes) = inode_for first node ∷ inodes_from (first + blocks_of_node node) nodes

-- the bytes of the inode blocks: inode 0 is free, and so are those after the nodes'
unfoldable pub inode_table : ℕ → ℕ → List Node → List ℕ
inode_table ninodes first nodes =
    free_inodes 1 ++ flat_map spell_dinode (inodes_from first nodes)
    ++ free_inodes (inodes_per_block * inode_blocks ninodes - (1 + length nodes))

-- ---- the bitmap

-- the byte whose n lowest bits are set
abbrev pub low_bits : ℕ → ℕ
low_bits n = 2 ^ n - 1

-- the bitmap in which the bits of the first `used` blocks are set, the lowest in a byte first
unfoldable pub bitmap : ℕ → List ℕ
bitmap used = padded block_len (replicate (used / bits_per_byte) (low_bits bits_per_byte) ++ low_bits (used % bits_per_byte) ∷ [])

-- ---- the data

-- the indirect block of a node of `size` bytes whose blocks begin at `first`: it names the blocks after it
abbrev pub indirect_block : ℕ → ℕ → List ℕ
indirect_block first size = spell_numbers (padded numbers_per_block (range_with_len (first + addresses) (blocks_for size - direct)))

-- The blocks of a node with this content, the first of them block `first`. If the direct ones don't suffice, the
-- indirect block comes after them.
unfoldable pub node_bytes : ℕ → List ℕ → List ℕ
node_bytes first content =
    if nat_lt direct_len (length content)
    then take direct_len content ++ (indirect_block first (length content) ++ whole (drop direct_len content))
    else whole content

-- the blocks of all nodes
abbrev pub data_from : ℕ → List Node → List ℕ
data_from first [] = []
data_from first (node ∷ nodes) = node_bytes first node.content ++ data_from (first + blocks_of_node node) nodes

-- the first block that no node has
abbrev pub used_by : ℕ → List Node → ℕ
used_by first nodes = first + sum_by blocks_of_node nodes

-- how many blocks the nodes before node i of the list have
abbrev pub blocks_before : ℕ → List Node → ℕ
blocks_before i nodes = sum_by blocks_of_node (take i nodes)

-- ---- the whole

-- boot block, superblock and log, which is empty
unfoldable pub front : Version → ℕ → ℕ → List ℕ
front v size ninodes = zero_blocks 1 ++ padded block_len (spell_super (super_for v size ninodes)) ++ zero_blocks log_blocks

-- an image with these nodes, and after them the free blocks
unfoldable pub image_with : Version → ℕ → ℕ → List Node → List ℕ
image_with v size ninodes nodes =
    front v size ninodes
    ++ inode_table ninodes (data_start ninodes) nodes
    ++ bitmap (used_by (data_start ninodes) nodes)
    ++ data_from (data_start ninodes) nodes
    ++ zero_blocks (size - used_by (data_start ninodes) nodes)

-- the image with files of these names and contents in its root
abbrev pub image_of : Version → ℕ → ℕ → List (List ℕ) → List (List ℕ) → List ℕ
image_of v size ninodes names contents = image_with v size ninodes (nodes_with (root_content v names) contents)

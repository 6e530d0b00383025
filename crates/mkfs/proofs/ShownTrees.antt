-- What the disk of an image shows of its nodes.
use Rattle.image_versions.specs.Shared.{addresses}
use Rattle.fs_layout.specs.Widths.{block_len}
use Rattle.mkfs.proofs.Vocabulary.{◌≡◌, ℕ, ◌+◌, ◌*◌, ◌<◌, nat_lt, List, [], ◌++◌, length, take, drop, replicate, get_or, pos, range_with_len, Dinode, block_at, sizes_of, log_count, logged, recovered, inode_of, numbers_of, content_block, is_marked, data_start, super_for, Node, whole, inodes_from, used_by, blocks_before, blocks_of_node}

-- an inode that is all zeros
abbrev pub free_inode : Dinode
free_inode = record { kind = pos 0; major = pos 0; minor = pos 0; nlink = pos 0; size = 0; addrs = replicate addresses 0 }

-- the numbers of a node's blocks, from the first on, with zeros after them
pub record IsRange (numbers : List ℕ) (first count : ℕ) : Type 0 where
  pub zeros : ℕ
  pub is : numbers ≡ range_with_len first count ++ replicate zeros 0

pub record Shows (disk : List (List ℕ)) (size ninodes : ℕ) (nodes : List Node) : Type 0 where
  pub long : length disk ≡ size
  pub sizes : sizes_of disk ≡ super_for (sizes_of disk).version size ninodes
  pub count : log_count disk ≡ 0
  pub empty : logged disk ≡ []
  pub stands : (b : ℕ) → recovered disk b ≡ block_at disk b
  -- the root is inode 1
  pub inode : (j : ℕ) (d : Dinode) → j < length nodes → inode_of disk (j + 1) ≡ get_or (inodes_from (data_start ninodes) nodes) j d
  pub free : (i : ℕ) → length nodes < i → i < ninodes → inode_of disk i ≡ free_inode
  pub bits : (b : ℕ) → b < 8192 → is_marked disk b ≡ nat_lt b (used_by (data_start ninodes) nodes)
  pub numbers : (j : ℕ) (n : Node) → j < length nodes
      → IsRange (numbers_of disk (inode_of disk (j + 1))) (data_start ninodes + blocks_before j nodes) (blocks_of_node (get_or nodes j n))
  pub content : (j k : ℕ) (n : Node) → j < length nodes → block_len * k < length (get_or nodes j n).content
      → content_block disk (inode_of disk (j + 1)) k ≡ take block_len (drop (block_len * k) (whole (get_or nodes j n).content))

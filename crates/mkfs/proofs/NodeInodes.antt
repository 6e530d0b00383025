-- The inodes that an image shows.
use Rattle.fs_layout.specs.Widths.{inodes_per_block}
use Rattle.mkfs.proofs.Vocabulary.{Version, ◌≡◌, ℕ, ◌+◌, ◌/◌, ◌%◌, ◌<◌, ◌≤◌, List, length, get_or, ap, ◌∙◌, All, Super, Dinode, dinode_at, block_at, recovered, inode_of, data_start, Node, inodes_from}
use Rattle.mkfs.proofs.Basics.{Fits, disk_of, sizes-there, recovered-there}
use Rattle.mkfs.proofs.Records.{IsNode, inode-there}

-- an inode is at the place in the image that its number says
pub inode-at : (v : Version) (size ninodes : ℕ) (nodes : List Node) (i : ℕ) → ninodes ≤ 65535 → Fits size ninodes nodes
    → inode_of (disk_of v size ninodes nodes) i ≡ dinode_at (i % inodes_per_block) (block_at (disk_of v size ninodes nodes) (33 + i / inodes_per_block))
unfolding inode_of
inode-at v size ninodes nodes i n h =
    let disk : List (List ℕ) = disk_of v size ninodes nodes in
    ap (λ (s : Super). dinode_at (i % inodes_per_block) (recovered disk (s.inodestart + i / inodes_per_block))) (sizes-there v size ninodes nodes n h)
    ∙ ap (dinode_at (i % inodes_per_block)) (recovered-there v size ninodes nodes (33 + i / inodes_per_block) n h)

-- the root's is inode 1
pub inode-is : (v : Version) (size ninodes : ℕ) (nodes : List Node) (j : ℕ) (d : Dinode) → ninodes ≤ 65535 → Fits size ninodes nodes → All IsNode nodes → j < length nodes
    → inode_of (disk_of v size ninodes nodes) (j + 1) ≡ get_or (inodes_from (data_start ninodes) nodes) j d
inode-is v size ninodes nodes j d n h all l =
    inode-at v size ninodes nodes (j + 1) n h ∙ inode-there v size ninodes nodes j d h all l

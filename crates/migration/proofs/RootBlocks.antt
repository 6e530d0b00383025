-- The root has few blocks, even with longer slots.
use Rattle.std.proofs.Common.{◌≡◌, ◌∙◌, ap, arith, Bool, true, false, if◌then◌else◌, nat_lt, ℕ, ◌+◌, ◌-◌, ◌*◌, ◌/◌, ◌<◌, ◌≤◌, ◌^◌, List}
use Rattle.std.proofs.Math.Nat.{div-add-mod}
use Rattle.std.proofs.lemmas.Nat.{mul-le}
use Rattle.image_versions.specs.declared.version.Version.{Version}
use Rattle.image_versions.proofs.Places.{in_range}
use Rattle.image_tree.specs.Checks.{HasRoot}
use Rattle.image_tree.proofs.Nodes.{node_from}
use Rattle.image_tree.specs.Inodes.{is_number}
use Rattle.image_versions.specs.Shared.{direct}
use Rattle.image_tree.specs.Inodes.{blocks_for}
use Rattle.migration.specs.Vocabulary.{Dinode, IsWellFormed, dirent_len_of, inode_of, is_node, largest_size, node_blocks, sizes_of}
use Rattle.migration.specs.Refusals.{root_blocks}

-- it is a node
pub root_there : (w : Version) (disk : List (List ℕ)) → IsWellFormed w disk → is_node disk 1 ≡ true
root_there w disk well =
    let root : HasRoot disk = well.0.0.0.0.0.0.0.1 in
    let some : 2 ≤ (sizes_of disk).ninodes = well.0.0.0.0.0.0.0.0.0.0.0.1.1.few_inodes in
    node_from disk 1 (record { low = omega arith; bound = omega (arith, some); used = ap (is_number 0) root.0 })

-- its size is one of a node
pub root_small : (w : Version) (disk : List (List ℕ)) → IsWellFormed w disk → (inode_of disk 1).size ≤ largest_size
root_small w disk well = (well.0.0.0.1 1 (root_there w disk well)).fits.limit

-- its slots have no more than 32 bytes each
pub slot_bytes : (w v : Version) (size : ℕ) → size ≤ largest_size → dirent_len_of v * (size / dirent_len_of w) ≤ 32 * largest_size
slot_bytes w v size small =
    let q : ℕ = size / dirent_len_of w in
    let split = div-add-mod size (dirent_len_of w) in
    let wide = (in_range w).2 in
    let few : 1 * q ≤ dirent_len_of w * q = mul-le 1 q (dirent_len_of w) q (omega arith) (omega arith) in
    mul-le (dirent_len_of v) q 32 largest_size (in_range v).3 (let p : ℕ = dirent_len_of w * q in omega (arith, split, few, small))

-- so has the root in another version
pub root_bytes : (w v : Version) (disk : List (List ℕ)) (d : Dinode) (a b : ℕ) → IsWellFormed w disk → d ≡ inode_of disk 1 → a ≡ dirent_len_of v → b ≡ dirent_len_of w → a * (d.size / b) ≤ 32 * largest_size
root_bytes w v disk d a b well is here there = rw (is, here, there) (slot_bytes w v (inode_of disk 1).size (root_small w disk well))

-- and its blocks are those that its slots take there
pub root_there_has : (w v : Version) (disk : List (List ℕ)) (d : Dinode) (a b n : ℕ) → d ≡ inode_of disk 1 → a ≡ dirent_len_of v → b ≡ dirent_len_of w → n ≡ node_blocks (a * (d.size / b)) → n ≡ root_blocks w v disk
root_there_has w v disk d a b n is here there blocks = blocks ∙ (λ i. node_blocks (here i * ((is i).size / there i)))

with_one : (b : Bool) (n : ℕ) → n < 2 ^ 16 - 1 → n + (if b then 1 else 0) < 2 ^ 16
with_one true n few = omega (arith, few)
with_one false n few = omega (arith, few)

pub few_blocks : (size : ℕ) → size ≤ 32 * largest_size → node_blocks size < 2 ^ 16
few_blocks size small = with_one (nat_lt direct (blocks_for size)) (blocks_for size) (omega (arith, small))

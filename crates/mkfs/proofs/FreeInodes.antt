-- The inodes of an image that no node has.
use Rattle.fs_layout.specs.Widths.{block_len, inode_len, inodes_per_block}
use Rattle.mkfs.proofs.Vocabulary.{Version, ◌≡◌, ℕ, ◌+◌, ◌-◌, ◌*◌, ◌/◌, ◌%◌, ◌<◌, ◌≤◌, List, ◌++◌, length, take, drop, replicate, ap, ◌∙◌, sym, refl, arith, append_assoc, length-append, flat_map, drop_at, drop-drop, drop-append-le, drop-replicate, take-append-le, take-replicate, u16_at, u32_at, u32s_at, record_at, dinode_of, spell_dinode, inode_of, data_start, inode_blocks, Node, front, inodes_from, inode_table, bitmap, data_from, used_by, image_with}
use Rattle.mkfs.proofs.Basics.{Fits, length-front, length-zeros, length-inodes, disk_of, block-at, part-of-part, free_inode}
use Rattle.mkfs.proofs.NodeInodes.{inode-at}

zero-inode : dinode_of (replicate inode_len 0) ≡ free_inode
unfolding u16_at u32_at u32s_at
zero-inode = refl

-- 64 bytes of a row of zeros
in-zeros : (n k : ℕ) (rest : List ℕ) → k + inode_len ≤ n → take inode_len (drop k (replicate n 0 ++ rest)) ≡ replicate inode_len 0
in-zeros n k rest h =
    let none : ℕ = 0 in
    let many : inode_len ≤ n - k = omega arith in
    ap (take inode_len) (drop-append-le k (replicate n 0) rest (omega (arith, length-zeros n)) ∙ ap (λ (xs : List ℕ). xs ++ rest) (drop-replicate k n none))
    ∙ take-append-le inode_len (replicate (n - k) 0) rest (omega (arith, length-zeros (n - k)))
    ∙ take-replicate inode_len (n - k) none many

regroup : (f z i r b d e : List ℕ) → (((f ++ ((z ++ i) ++ r)) ++ b) ++ d) ++ e ≡ ((f ++ z) ++ i) ++ (r ++ (b ++ (d ++ e)))
regroup f z i r b d e = simp append_assoc

-- after the nodes' inodes come zeros
zeros-at : (v : Version) (size ninodes : ℕ) (nodes : List Node) (i : ℕ) → length nodes < i → i < ninodes
    → take inode_len (drop (33792 + inode_len * i) (image_with v size ninodes nodes)) ≡ replicate inode_len 0
unfolding image_with inode_table
zeros-at v size ninodes nodes i h l =
    let first : ℕ = data_start ninodes in
    let used : ℕ = used_by first nodes in
    let f : List ℕ = front v size ninodes in
    let z : List ℕ = replicate inode_len 0 in
    let s : List ℕ = flat_map spell_dinode (inodes_from first nodes) in
    let n : ℕ = inode_len * (inodes_per_block * inode_blocks ninodes - (1 + length nodes)) in
    let e : List ℕ = replicate (block_len * (size - used)) 0 in
    let rest : List ℕ = bitmap used ++ (data_from first nodes ++ e) in
    let before : ℕ = 33856 + inode_len * length nodes in
    let k : ℕ = inode_len * (i - (1 + length nodes)) in
    let long : length ((f ++ z) ++ s) ≡ before =
    omega (arith, length-append (f ++ z) s, length-append f z, length-front v size ninodes, length-zeros inode_len, length-inodes first nodes) in
    let place : 33792 + inode_len * i ≡ before + k = omega arith in
    let within : k + inode_len ≤ n = omega arith in
    ap (λ (xs : List ℕ). take inode_len (drop (33792 + inode_len * i) xs)) (regroup f z s (replicate n 0) (bitmap used) (data_from first nodes) e)
    ∙ ap (λ (m : ℕ). take inode_len (drop m (((f ++ z) ++ s) ++ (replicate n 0 ++ rest)))) place
    ∙ ap (take inode_len) (sym (drop-drop k before (((f ++ z) ++ s) ++ (replicate n 0 ++ rest))) ∙ ap (drop k) (drop_at ((f ++ z) ++ s) (replicate n 0 ++ rest) before long))
    ∙ in-zeros n k rest within

pub free-there : (v : Version) (size ninodes : ℕ) (nodes : List Node) (i : ℕ) → ninodes ≤ 65535 → Fits size ninodes nodes → length nodes < i → i < ninodes
    → inode_of (disk_of v size ninodes nodes) i ≡ free_inode
free-there v size ninodes nodes i n h low l =
    let q : ℕ = 33 + i / inodes_per_block in
    let r : ℕ = i % inodes_per_block in
    let image : List ℕ = image_with v size ninodes nodes in
    let small : inode_len * r + inode_len ≤ block_len = omega arith in
    let within : q < size = omega (arith, h.room) in
    let place : block_len * q + inode_len * r ≡ 33792 + inode_len * i = omega arith in
    inode-at v size ninodes nodes i n h
    ∙ ap (λ (block : List ℕ). dinode_of (record_at inode_len r block)) (block-at v size ninodes nodes q h within)
    ∙ ap dinode_of (part-of-part image inode_len (inode_len * r) block_len (block_len * q) (33792 + inode_len * i) small place ∙ zeros-at v size ninodes nodes i low l)
    ∙ zero-inode

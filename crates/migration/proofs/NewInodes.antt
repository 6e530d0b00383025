-- The inodes of a new image.
use Rattle.std.proofs.Common.{◌≡◌, ◌∙◌, sym, ap, arith, ℕ, zero, suc, ◌+◌, ◌-◌, ◌*◌, ◌/◌, ◌%◌, ◌<◌, ◌≤◌, ◌^◌, min, List, [], ◌∷◌, ◌++◌, length, take, drop, replicate, get_or, append_assoc, length-append, sum_by}
use Rattle.std.proofs.lemmas.List.{drop-drop, drop_at}
use Rattle.std.proofs.lemmas.List.Sums.{sum_by-cons}
use Rattle.std.specs.Prelude.{All}
use Rattle.image_versions.specs.Shared.{addresses}
use Rattle.fs_layout.specs.Widths.{block_len, inode_len, inodes_per_block}
use Rattle.image_versions.specs.declared.version.Version.{Version}
use Rattle.fs_layout.specs.Inode.{IsDinode, dinode_at, dinode_of}
use Rattle.fs_layout.specs.declared.superblock.Super.{Super}
use Rattle.fs_layout.proofs.Inodes.{dinode_of-spell}
use Rattle.image_tree.specs.Vocabulary.{recovered}
use Rattle.mkfs.specs.Image.{blocks_before as blocks_of_files_before, blocks_of_node as blocks_of_file}
use Rattle.mkfs.proofs.Lengths.{length-front, length-zeros}
use Rattle.mkfs.proofs.Pieces.{part-of-part, record-there}
use Rattle.mkfs.proofs.Records.{all-append, all-range, all-zeros}
use Rattle.migration.specs.Vocabulary.{Dinode, bitmap, data_start, flat_map, front, inode_blocks, inode_of, padded, range_with_len, spell_dinode}
use Rattle.migration.specs.Nodes.{Node}
use Rattle.migration.specs.Image.{blocks_of_node, data_from, image_with, inode_for, inode_table, inodes_from, used_by}
use Rattle.migration.proofs.Steps.{length-addrs}
use Rattle.migration.proofs.PlainNodes.{IsLaid, IsSound, plain, plains}
use Rattle.migration.proofs.NewBlocks.{block-new, count-inodes, long-inodes, new_disk, recovered-new, sizes-new}

-- the first block of node j of the list
abbrev pub place_of : ℕ → List Node → ℕ → ℕ
place_of first nodes j = first + blocks_of_files_before j (plains nodes)

inode-in : (first : ℕ) (nodes : List Node) (j : ℕ) (n : Node) (d : Dinode) → j < length nodes
    → get_or (inodes_from first nodes) j d ≡ inode_for (place_of first nodes j) (get_or nodes j n)
inode-in first [] j n d h = absurd (omega arith)
inode-in first (node ∷ nodes) zero n d h = let e : first ≡ first + 0 = omega arith in ap (λ (i : ℕ). inode_for i node) e
inode-in first (node ∷ nodes) (suc j) n d h =
    let count : ℕ = blocks_of_node node in
    let place : place_of (first + count) nodes j ≡ place_of first (node ∷ nodes) (suc j) = omega (arith, sum_by-cons blocks_of_file (plain node) (take j (plains nodes))) in
    inode-in (first + count) nodes j n d (omega arith) ∙ ap (λ (i : ℕ). inode_for i (get_or nodes j n)) place

-- ---- each of them can be read back

good-inode : (first : ℕ) (node : Node) → first < 2 ^ 31 → IsSound node → IsDinode (inode_for first node)
unfolding inode_for padded
good-inode first node f h =
    let k : ℕ = min (blocks_of_node node) addresses in
    let numbers : List ℕ = range_with_len first k in
    record {
      kind = h.kind;
      major = h.major;
      minor = h.minor;
      nlink = h.nlink;
      size = omega (arith, h.size);
      thirteen = length-addrs first node;
      addrs = all-append numbers (replicate (addresses - length numbers) 0) (all-range first k (omega arith)) (all-zeros (addresses - length numbers));
    }

good-inodes : (first : ℕ) (nodes : List Node) (j : ℕ) (d : Dinode) → j < length nodes → first + sum_by blocks_of_node nodes < 2 ^ 31 → All IsSound nodes
    → IsDinode (get_or (inodes_from first nodes) j d)
good-inodes first [] j d h f all = absurd (omega arith)
good-inodes first (node ∷ nodes) zero d h f all = good-inode first node (omega arith) (all 0 node (omega arith))
good-inodes first (node ∷ nodes) (suc j) d h f all =
    let sum = sum_by-cons blocks_of_node node nodes in
    good-inodes (first + blocks_of_node node) nodes j d (omega arith) (omega (arith, sum)) (λ i x l. all (suc i) x (omega arith))

-- ---- their places

regroup : (f z i r b d e : List ℕ) → (((f ++ ((z ++ i) ++ r)) ++ b) ++ d) ++ e ≡ (f ++ z) ++ (i ++ (r ++ (b ++ (d ++ e))))
regroup f z i r b d e = simp append_assoc

table-at : (v : Version) (size ninodes : ℕ) (nodes : List Node) (j : ℕ) (d : Dinode) → j < length nodes
    → take inode_len (drop (33856 + inode_len * j) (image_with v size ninodes nodes)) ≡ spell_dinode (get_or (inodes_from (data_start ninodes) nodes) j d)
unfolding image_with inode_table
table-at v size ninodes nodes j d h =
    let first : ℕ = data_start ninodes in
    let used : ℕ = used_by first nodes in
    let f : List ℕ = front v size ninodes in
    let z : List ℕ = replicate inode_len 0 in
    let i : List ℕ = flat_map spell_dinode (inodes_from first nodes) in
    let r : List ℕ = replicate (inode_len * (inodes_per_block * inode_blocks ninodes - (1 + length nodes))) 0 in
    let e : List ℕ = replicate (block_len * (size - used)) 0 in
    let rest : List ℕ = r ++ (bitmap used ++ (data_from first nodes ++ e)) in
    let long : length (f ++ z) ≡ 33856 = omega (arith, length-append f z, length-front v size ninodes, length-zeros inode_len) in
    ap (λ (xs : List ℕ). take inode_len (drop (33856 + inode_len * j) xs)) (regroup f z i r (bitmap used) (data_from first nodes) e)
    ∙ ap (take inode_len) (sym (drop-drop (inode_len * j) 33856 ((f ++ z) ++ (i ++ rest))) ∙ ap (drop (inode_len * j)) (drop_at (f ++ z) (i ++ rest) 33856 long))
    ∙ record-there spell_dinode inode_len (inodes_from first nodes) j d rest (long-inodes first nodes) (omega (arith, count-inodes first nodes))

-- node j of the list is inode j + 1
pub inode-new : (v : Version) (size ninodes : ℕ) (nodes : List Node) (j : ℕ) (n : Node) → IsLaid size ninodes nodes → j < length nodes
    → inode_of (new_disk v size ninodes nodes) (j + 1) ≡ inode_for (place_of (data_start ninodes) nodes j) (get_or nodes j n)
unfolding inode_of
inode-new v size ninodes nodes j n h l =
    let disk : List (List ℕ) = new_disk v size ninodes nodes in
    let d : Dinode = inode_for 0 n in
    let q : ℕ = 33 + (j + 1) / inodes_per_block in
    let r : ℕ = (j + 1) % inodes_per_block in
    let there : Dinode = get_or (inodes_from (data_start ninodes) nodes) j d in
    let low : inode_len * r + inode_len ≤ block_len = omega arith in
    let within : q < size = omega (arith, h.count, h.room) in
    let place : block_len * q + inode_len * r ≡ 33856 + inode_len * j = omega arith in
    let few : data_start ninodes + sum_by blocks_of_node nodes < 2 ^ 31 = omega (arith, h.room, h.few) in
    ap (λ (s : Super). dinode_at r (recovered disk (s.inodestart + (j + 1) / inodes_per_block))) (sizes-new v size ninodes nodes h)
    ∙ ap (dinode_at r) (recovered-new v size ninodes nodes h q ∙ block-new v size ninodes nodes h q within)
    ∙ ap dinode_of (part-of-part (image_with v size ninodes nodes) inode_len (inode_len * r) block_len (block_len * q) (33856 + inode_len * j) low place ∙ table-at v size ninodes nodes j d l)
    ∙ dinode_of-spell there (good-inodes (data_start ninodes) nodes j d l few h.each)
    ∙ inode-in (data_start ninodes) nodes j n d l

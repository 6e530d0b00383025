-- The inodes of an image.
use Rattle.image_versions.specs.Shared.{addresses}
use Rattle.fs_layout.specs.Widths.{block_len, inode_len, inodes_per_block}
use Rattle.image_versions.specs.Shared.{largest_size}
use Rattle.mkfs.proofs.Vocabulary.{Version, ◌≡◌, ℕ, zero, suc, ◌+◌, ◌-◌, ◌*◌, ◌/◌, ◌%◌, ◌^◌, ◌<◌, ◌≤◌, min, w16, FitsSigned, List, [], ◌∷◌, ◌++◌, length, take, drop, map, replicate, get_or, sum_by, ap, ◌∙◌, sym, subst, arith, rules, append_assoc, length-append, All, AllByRecursion, flat_map, range_with_len, drop_at, drop-drop, length-map, get_or-map, sum_by-cons, Dinode, record_at, dinode_at, dinode_of, spell_dinode, IsDinode, block_at, dinode_of-spell, data_start, inode_blocks, Node, padded, front, inode_for, inodes_from, inode_table, bitmap, data_from, used_by, image_with, blocks_of_node, nodes_with, file_node}
use Rattle.mkfs.proofs.Basics.{length-addrs, AreNodes, Fits, length-front, length-zeros, inode-spelled, part-of-part, disk_of, block-at}

regroup : (f z i r b d e : List ℕ) → (((f ++ ((z ++ i) ++ r)) ++ b) ++ d) ++ e ≡ (f ++ z) ++ (i ++ (r ++ (b ++ (d ++ e))))
regroup f z i r b d e = simp append_assoc

-- ---- each of them can be read back

pub all-append : (xs ys : List ℕ) → AllByRecursion (λ n. n < 2 ^ 32) xs → AllByRecursion (λ n. n < 2 ^ 32) ys → AllByRecursion (λ n. n < 2 ^ 32) (xs ++ ys)
all-append [] ys a b = b
all-append (x ∷ xs) ys a b = (a.0, all-append xs ys a.1 b)

pub all-range : (a n : ℕ) → a + n < 2 ^ 32 → AllByRecursion (λ k. k < 2 ^ 32) (range_with_len a n)
all-range a zero h = tt
all-range a (suc n) h = (omega arith, all-range (a + 1) n (omega arith))

pub all-zeros : (n : ℕ) → AllByRecursion (λ k. k < 2 ^ 32) (replicate n 0)
all-zeros zero = tt
all-zeros (suc n) = (omega arith, all-zeros n)

-- what a node's inode can say
pub record IsNode (node : Node) : Type 0 where
  pub kind : FitsSigned w16 node.kind
  pub size : length node.content ≤ largest_size

good-inode : (first : ℕ) (node : Node) → first < 2 ^ 31 → IsNode node → IsDinode (inode_for first node)
unfolding inode_for padded
good-inode first node f h =
    let k : ℕ = min (blocks_of_node node) addresses in
    let numbers : List ℕ = range_with_len first k in
    record {
      kind = h.kind;
      major = first_of (omega arith, search rules);
      minor = first_of (omega arith, search rules);
      nlink = first_of (omega arith, search rules);
      size = omega (arith, h.size);
      thirteen = length-addrs first node;
      addrs = all-append numbers (replicate (addresses - length numbers) 0) (all-range first k (omega arith)) (all-zeros (addresses - length numbers));
    }

good-inodes : (first : ℕ) (nodes : List Node) (j : ℕ) (d : Dinode) → j < length nodes → first + sum_by blocks_of_node nodes < 2 ^ 31 → All IsNode nodes
    → IsDinode (get_or (inodes_from first nodes) j d)
good-inodes first [] j d h f all = absurd (omega arith)
good-inodes first (node ∷ nodes) zero d h f all =
    good-inode first node (omega arith) (all 0 node (omega arith))
good-inodes first (node ∷ nodes) (suc j) d h f all =
    let sum = sum_by-cons blocks_of_node node nodes in
    good-inodes (first + blocks_of_node node) nodes j d (omega arith) (omega (arith, sum)) (λ i x l. all (suc i) x (omega arith))

-- ---- their places

table-at : (v : Version) (size ninodes : ℕ) (nodes : List Node) (j : ℕ) (d : Dinode) → j < length nodes
    → take inode_len (drop (33856 + inode_len * j) (image_with v size ninodes nodes)) ≡ spell_dinode (get_or (inodes_from (data_start ninodes) nodes) j d)
unfolding image_with inode_table
table-at v size ninodes nodes j d h =
    let first : ℕ = data_start ninodes in
    let used : ℕ = used_by first nodes in
    let f : List ℕ = front v size ninodes in
    let z : List ℕ = replicate inode_len 0 in
    let i : List ℕ = flat_map spell_dinode (inodes_from first nodes) in
    let r : List ℕ = replicate (inode_len * (inodes_per_block * inode_blocks ninodes - (1 + length nodes))) 0 in
    let e : List ℕ = replicate (block_len * (size - used)) 0 in
    let rest : List ℕ = r ++ (bitmap used ++ (data_from first nodes ++ e)) in
    let long : length (f ++ z) ≡ 33856 = omega (arith, length-append f z, length-front v size ninodes, length-zeros inode_len) in
    ap (λ (xs : List ℕ). take inode_len (drop (33856 + inode_len * j) xs)) (regroup f z i r (bitmap used) (data_from first nodes) e)
    ∙ ap (take inode_len) (sym (drop-drop (inode_len * j) 33856 ((f ++ z) ++ (i ++ rest))) ∙ ap (drop (inode_len * j)) (drop_at (f ++ z) (i ++ rest) 33856 long))
    ∙ inode-spelled first nodes j d rest h

pub inode-there : (v : Version) (size ninodes : ℕ) (nodes : List Node) (j : ℕ) (d : Dinode) → Fits size ninodes nodes → All IsNode nodes → j < length nodes
    → dinode_at ((j + 1) % inodes_per_block) (block_at (disk_of v size ninodes nodes) (33 + (j + 1) / inodes_per_block)) ≡ get_or (inodes_from (data_start ninodes) nodes) j d
inode-there v size ninodes nodes j d h all l =
    let q : ℕ = 33 + (j + 1) / inodes_per_block in
    let r : ℕ = (j + 1) % inodes_per_block in
    let image : List ℕ = image_with v size ninodes nodes in
    let there : Dinode = get_or (inodes_from (data_start ninodes) nodes) j d in
    let low : inode_len * r + inode_len ≤ block_len = omega arith in
    let within : q < size = omega (arith, h.inodes, h.room) in
    let place : block_len * q + inode_len * r ≡ 33856 + inode_len * j = omega arith in
    let few : data_start ninodes + sum_by blocks_of_node nodes < 2 ^ 31 = omega (arith, h.room, h.few) in
    ap (λ (block : List ℕ). dinode_of (record_at inode_len r block)) (block-at v size ninodes nodes q h within)
    ∙ ap dinode_of (part-of-part image inode_len (inode_len * r) block_len (block_len * q) (33856 + inode_len * j) low place ∙ table-at v size ninodes nodes j d l)
    ∙ dinode_of-spell there (good-inodes (data_start ninodes) nodes j d l few all)

pub are-nodes : (root : List ℕ) (contents : List (List ℕ)) → AreNodes (nodes_with root contents) → All IsNode (nodes_with root contents)
are-nodes root contents h zero d l = record { kind = first_of (omega arith, search rules); size = h zero d l }
are-nodes root contents h (suc i) d l =
    let below : i < length (map file_node contents) = omega arith in
    let within : i < length contents = omega (arith, length-map contents file_node) in
    let none : List ℕ = [] in
    let is : file_node (get_or contents i none) ≡ get_or (map file_node contents) i d = sym (get_or-map file_node contents i none d within) in
    let size : length (get_or (map file_node contents) i d).content ≤ largest_size = h (suc i) d l in
    let same : length (get_or contents i none) ≡ length (get_or (map file_node contents) i d).content = ap (λ (node : Node). length node.content) is in
    subst IsNode is (record { kind = first_of (omega arith, search rules); size = omega arith })

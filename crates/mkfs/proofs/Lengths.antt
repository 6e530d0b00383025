-- How long the parts of an image are.
use Rattle.image_versions.specs.Shared.{addresses, direct, most_disk_blocks, numbers_per_block}
use Rattle.fs_layout.specs.Widths.{block_len, inode_len, inodes_per_block}
use Rattle.image_versions.specs.Shared.{largest_size}
use Rattle.mkfs.proofs.Vocabulary.{Version, ◌≡◌, ℕ, suc, ◌+◌, ◌-◌, ◌*◌, ◌/◌, ◌<◌, ◌≤◌, ◌^◌, ◌%◌, Bool, false, cond, nat_lt, List, [], ◌∷◌, ◌++◌, length, take, drop, replicate, sum_by, get_or, ap, ◌∙◌, sym, refl, ⊎_elim, arith, length-append, length-drop, All, flat_map, range_with_len, length-replicate, length-take-le, All-cons, All-nil, length-range_with_len, sum_by-cons, cases_lt, le-ltb, lt-ltb, Dinode, spell_dinode, spell_super, super_numbers, magic_of, length-u32s_bytes, length-spell_dinode, blocks_for, node_blocks, inode_blocks, data_start, super_for, Node, padded, whole, front, inode_for, inodes_from, inode_table, bitmap, data_from, used_by, image_with, node_bytes, indirect_block, blocks_of_node}
use Rattle.mkfs.proofs.Pieces.{AreLong, length-records, record-there}
use Rattle.mkfs.proofs.Padding.{length-padded, length-whole, length-addrs, node_bytes-small, node_bytes-large}

pub length-zeros : (n : ℕ) → length {A = ℕ} (replicate n 0) ≡ n
length-zeros n = let none : ℕ = 0 in length-replicate n none

pub length-super : (v : Version) (size ninodes : ℕ) → length (spell_super (super_for v size ninodes)) ≡ 32
length-super v size ninodes = length-u32s_bytes (magic_of v ∷ super_numbers (super_for v size ninodes))

pub length-front : (v : Version) (size ninodes : ℕ) → length (front v size ninodes) ≡ 33792
unfolding front
length-front v size ninodes =
    let block : List ℕ = padded block_len (spell_super (super_for v size ninodes)) in
    let one : length block ≡ block_len = length-padded block_len (spell_super (super_for v size ninodes)) (omega (arith, length-super v size ninodes)) in
    omega (arith, length-append (replicate block_len 0 ++ block) (replicate 31744 0), length-append (replicate block_len 0) block, one, length-zeros block_len, length-zeros 31744)

count-inodes : (first : ℕ) (nodes : List Node) → length (inodes_from first nodes) ≡ length nodes
count-inodes first [] = refl
count-inodes first (node ∷ nodes) = ap suc (count-inodes (first + blocks_of_node node) nodes)

long-inodes : (first : ℕ) (nodes : List Node) → AreLong spell_dinode inode_len (inodes_from first nodes)
long-inodes first [] = All-nil (λ d. length (spell_dinode d) ≡ inode_len)
long-inodes first (node ∷ nodes) =
    let behind : ℕ = first + blocks_of_node node in
    All-cons (λ d. length (spell_dinode d) ≡ inode_len) (inode_for first node) (inodes_from behind nodes) (length-spell_dinode (inode_for first node) (length-addrs first node)) (long-inodes behind nodes)

pub length-inodes : (first : ℕ) (nodes : List Node) → length (flat_map spell_dinode (inodes_from first nodes)) ≡ inode_len * length nodes
length-inodes first nodes = length-records spell_dinode inode_len (inodes_from first nodes) (long-inodes first nodes) ∙ ap (λ (n : ℕ). inode_len * n) (count-inodes first nodes)

-- the spelled inode at j
pub inode-spelled : (first : ℕ) (nodes : List Node) (j : ℕ) (d : Dinode) (rest : List ℕ) → j < length nodes
    → take inode_len (drop (inode_len * j) (flat_map spell_dinode (inodes_from first nodes) ++ rest)) ≡ spell_dinode (get_or (inodes_from first nodes) j d)
inode-spelled first nodes j d rest l =
    record-there spell_dinode inode_len (inodes_from first nodes) j d rest (long-inodes first nodes) (omega (arith, count-inodes first nodes))

pub length-table : (ninodes first : ℕ) (nodes : List Node) → 1 + length nodes ≤ inodes_per_block * inode_blocks ninodes
    → length (inode_table ninodes first nodes) ≡ block_len * inode_blocks ninodes
unfolding inode_table
length-table ninodes first nodes h =
    let some : List ℕ = flat_map spell_dinode (inodes_from first nodes) in
    let free : ℕ = inode_len * (inodes_per_block * inode_blocks ninodes - (1 + length nodes)) in
    omega (arith, length-append (replicate inode_len 0 ++ some) (replicate free 0), length-append (replicate inode_len 0) some, length-inodes first nodes, length-zeros inode_len, length-zeros free)

pub length-bitmap : (used : ℕ) → used < 8192 → length (bitmap used) ≡ block_len
unfolding bitmap
length-bitmap used h =
    let ff : ℕ = 255 in
    let last : List ℕ = (2 ^ (used % 8) - 1) ∷ [] in
    length-padded block_len (replicate (used / 8) 255 ++ last) (omega (arith, length-append (replicate (used / 8) 255) last, length-replicate (used / 8) ff))

-- a node's blocks, by how many it has
pub blocks-small : (size : ℕ) → size ≤ 12288 → node_blocks size ≡ blocks_for size
blocks-small size h =
    let few : blocks_for size ≤ direct = omega arith in
    let not : nat_lt direct (blocks_for size) ≡ false = le-ltb direct (blocks_for size) few in
    ap (λ (b : Bool). blocks_for size + cond b 1 0) not ∙ (let none : blocks_for size + 0 ≡ blocks_for size = omega arith in none)

pub blocks-large : (size : ℕ) → 12288 < size → node_blocks size ≡ blocks_for size + 1
blocks-large size h =
    let many : direct < blocks_for size = omega arith in
    ap (λ (b : Bool). blocks_for size + cond b 1 0) (lt-ltb direct (blocks_for size) many)

pub length-indirect_block : (first size : ℕ) → size ≤ largest_size → length (indirect_block first size) ≡ block_len
length-indirect_block first size h =
    let numbers : List ℕ = range_with_len (first + addresses) (blocks_for size - direct) in
    let few : length numbers ≤ numbers_per_block = omega (arith, length-range_with_len (first + addresses) (blocks_for size - direct)) in
    omega (arith, length-u32s_bytes (padded numbers_per_block numbers), length-padded numbers_per_block numbers few)

pub length-node : (first : ℕ) (content : List ℕ) → length content ≤ largest_size → length (node_bytes first content) ≡ block_len * node_blocks (length content)
length-node first content h =
    let size : ℕ = length content in
    ⊎_elim
    (λ (more : 12288 < size).
    let a : List ℕ = take 12288 content in
    let b : List ℕ = indirect_block first size in
    let d : List ℕ = drop 12288 content in
    let la = length-take-le 12288 content (omega arith) in
    let lb = length-indirect_block first size h in
    let ld = length-drop 12288 content in
    let wd : length (whole d) ≡ block_len * blocks_for (size - 12288) = length-whole d ∙ ap (λ (n : ℕ). block_len * blocks_for n) ld in
    let all : length (a ++ (b ++ whole d)) ≡ block_len * (blocks_for size + 1) = omega (arith, length-append a (b ++ whole d), length-append b (whole d), la, lb, wd) in
    ap (λ (xs : List ℕ). length xs) (node_bytes-large first content more) ∙ all ∙ ap (λ (n : ℕ). block_len * n) (sym (blocks-large size more)))
    (λ (few : size ≤ 12288).
    ap (λ (xs : List ℕ). length xs) (node_bytes-small first content few) ∙ length-whole content ∙ ap (λ (n : ℕ). block_len * n) (sym (blocks-small size few)))
    (cases_lt 12288 size)

abbrev pub AreNodes : List Node → Type 0
AreNodes nodes = All (λ node. length node.content ≤ largest_size) nodes

pub length-data : (first : ℕ) (nodes : List Node) → AreNodes nodes → length (data_from first nodes) ≡ block_len * sum_by blocks_of_node nodes
length-data first [] h = refl
length-data first (node ∷ nodes) h =
    let this = length-node first node.content (h 0 node (omega arith)) in
    let rest = length-data (first + blocks_of_node node) nodes (λ i d l. h (suc i) d (omega arith)) in
    omega (arith, length-append (node_bytes first node.content) (data_from (first + blocks_of_node node) nodes), this, rest, sum_by-cons blocks_of_node node nodes)

-- what an image needs
pub record Fits (size ninodes : ℕ) (nodes : List Node) : Type 0 where
  pub few : size ≤ most_disk_blocks
  pub inodes : 1 + length nodes ≤ ninodes
  pub contents : AreNodes nodes
  pub room : used_by (data_start ninodes) nodes ≤ size

pub length-image : (v : Version) (size ninodes : ℕ) (nodes : List Node) → Fits size ninodes nodes → length (image_with v size ninodes nodes) ≡ block_len * size
unfolding image_with
length-image v size ninodes nodes h =
    let first : ℕ = data_start ninodes in
    let used : ℕ = used_by first nodes in
    let sum : ℕ = sum_by blocks_of_node nodes in
    let a : List ℕ = front v size ninodes in
    let b : List ℕ = inode_table ninodes first nodes in
    let c : List ℕ = bitmap used in
    let d : List ℕ = data_from first nodes in
    let free : ℕ = block_len * (size - used) in
    let room : first + sum ≤ size = h.room in
    let many : 1 + length nodes ≤ inodes_per_block * inode_blocks ninodes = omega (arith, h.inodes) in
    let lb = length-table ninodes first nodes many in
    let lc = length-bitmap used (omega (arith, h.few)) in
    let ld = length-data first nodes h.contents in
    omega (arith, length-append (((a ++ b) ++ c) ++ d) (replicate free 0), length-append ((a ++ b) ++ c) d, length-append (a ++ b) c, length-append a b, length-front v size ninodes, lb, lc, ld, length-zeros free)

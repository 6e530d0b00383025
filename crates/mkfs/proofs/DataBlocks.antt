-- The nodes' blocks and the bitmap of an image.
use Rattle.fs_layout.specs.Widths.{block_len, inodes_per_block}
use Rattle.mkfs.proofs.Vocabulary.{Version, ◌≡◌, ℕ, zero, suc, ◌+◌, ◌-◌, ◌*◌, ◌<◌, ◌≤◌, List, [], ◌∷◌, ◌++◌, length, take, drop, replicate, get_or, ap, ◌∙◌, sym, arith, append_assoc, length-append, take_at, drop_at, drop-drop, sum_by-cons, block_at, data_start, bitmap_start, inode_blocks, Node, front, inode_table, bitmap, data_from, used_by, image_with, node_bytes, blocks_of_node, blocks_before}
use Rattle.mkfs.proofs.Basics.{AreNodes, Fits, length-front, length-table, length-bitmap, length-node, disk_of, block-at}

in-data : (first : ℕ) (nodes : List Node) (i : ℕ) (d : Node) (rest : List ℕ) → AreNodes nodes → i < length nodes
    → take (block_len * blocks_of_node (get_or nodes i d)) (drop (block_len * blocks_before i nodes) (data_from first nodes ++ rest)) ≡ node_bytes (first + blocks_before i nodes) (get_or nodes i d).content
in-data first [] i d rest h l = absurd (omega arith)
in-data first (node ∷ nodes) zero d rest h l =
    let a : List ℕ = node_bytes first node.content in
    let f : List ℕ = data_from (first + blocks_of_node node) nodes in
    let here : first ≡ first + 0 = omega arith in
    let long = length-node first node.content (h 0 node (omega arith)) in
    ap (take (block_len * blocks_of_node node)) (append_assoc a f rest)
    ∙ take_at a (f ++ rest) (block_len * blocks_of_node node) long
    ∙ ap (λ (n : ℕ). node_bytes n node.content) here
in-data first (node ∷ nodes) (suc i) d rest h l =
    let a : List ℕ = node_bytes first node.content in
    let n : ℕ = blocks_of_node node in
    let f : List ℕ = data_from (first + n) nodes in
    let that : Node = get_or nodes i d in
    let long = length-node first node.content (h 0 node (omega arith)) in
    let sum : blocks_before (suc i) (node ∷ nodes) ≡ n + blocks_before i nodes = sum_by-cons blocks_of_node node (take i nodes) in
    let place : block_len * blocks_before (suc i) (node ∷ nodes) ≡ block_len * n + block_len * blocks_before i nodes = omega (arith, sum) in
    let next : first + n + blocks_before i nodes ≡ first + blocks_before (suc i) (node ∷ nodes) = omega (arith, sum) in
    ap (λ (k : ℕ). take (block_len * blocks_of_node that) (drop k ((a ++ f) ++ rest))) place
    ∙ ap (λ (xs : List ℕ). take (block_len * blocks_of_node that) (drop (block_len * n + block_len * blocks_before i nodes) xs)) (append_assoc a f rest)
    ∙ ap (take (block_len * blocks_of_node that)) (sym (drop-drop (block_len * blocks_before i nodes) (block_len * n) (a ++ (f ++ rest))) ∙ ap (drop (block_len * blocks_before i nodes)) (drop_at a (f ++ rest) (block_len * n) long))
    ∙ in-data (first + n) nodes i d rest (λ j x m. h (suc j) x (omega arith)) (omega arith)
    ∙ ap (λ (k : ℕ). node_bytes k that.content) next

regroup : (f t b d e : List ℕ) → (((f ++ t) ++ b) ++ d) ++ e ≡ (f ++ t) ++ (b ++ (d ++ e))
regroup f t b d e = simp append_assoc

long-front : (v : Version) (size ninodes : ℕ) (nodes : List Node) → Fits size ninodes nodes
    → length (front v size ninodes ++ inode_table ninodes (data_start ninodes) nodes) ≡ block_len * bitmap_start ninodes
long-front v size ninodes nodes h =
    let t : List ℕ = inode_table ninodes (data_start ninodes) nodes in
    let many : 1 + length nodes ≤ inodes_per_block * inode_blocks ninodes = omega (arith, h.inodes) in
    omega (arith, length-append (front v size ninodes) t, length-front v size ninodes, length-table ninodes (data_start ninodes) nodes many)

pub bitmap-there : (v : Version) (size ninodes : ℕ) (nodes : List Node) → Fits size ninodes nodes
    → block_at (disk_of v size ninodes nodes) (bitmap_start ninodes) ≡ bitmap (used_by (data_start ninodes) nodes)
unfolding image_with
bitmap-there v size ninodes nodes h =
    let first : ℕ = data_start ninodes in
    let used : ℕ = used_by first nodes in
    let t : List ℕ = inode_table ninodes first nodes in
    let e : List ℕ = replicate (block_len * (size - used)) 0 in
    let rest : List ℕ = data_from first nodes ++ e in
    let within : bitmap_start ninodes < size = omega (arith, h.room) in
    block-at v size ninodes nodes (bitmap_start ninodes) h within
    ∙ ap (λ (xs : List ℕ). take block_len (drop (block_len * bitmap_start ninodes) xs)) (regroup (front v size ninodes) t (bitmap used) (data_from first nodes) e)
    ∙ ap (take block_len) (drop_at (front v size ninodes ++ t) (bitmap used ++ rest) (block_len * bitmap_start ninodes) (long-front v size ninodes nodes h))
    ∙ take_at (bitmap used) rest block_len (length-bitmap used (omega (arith, h.room, h.few)))

pub node-there : (v : Version) (size ninodes : ℕ) (nodes : List Node) (i : ℕ) (d : Node) → Fits size ninodes nodes → i < length nodes
    → take (block_len * blocks_of_node (get_or nodes i d)) (drop (block_len * (data_start ninodes + blocks_before i nodes)) (image_with v size ninodes nodes))
    ≡ node_bytes (data_start ninodes + blocks_before i nodes) (get_or nodes i d).content
unfolding image_with
node-there v size ninodes nodes i d h l =
    let first : ℕ = data_start ninodes in
    let used : ℕ = used_by first nodes in
    let t : List ℕ = inode_table ninodes first nodes in
    let e : List ℕ = replicate (block_len * (size - used)) 0 in
    let b : List ℕ = bitmap used in
    let front_part : List ℕ = (front v size ninodes ++ t) ++ b in
    let rest : List ℕ = data_from first nodes ++ e in
    let k : ℕ = block_len * blocks_before i nodes in
    let long : length front_part ≡ block_len * first = omega (arith, length-append (front v size ninodes ++ t) b, long-front v size ninodes nodes h, length-bitmap used (omega (arith, h.room, h.few))) in
    let place : block_len * (first + blocks_before i nodes) ≡ block_len * first + k = omega arith in
    ap (λ (n : ℕ). take (block_len * blocks_of_node (get_or nodes i d)) (drop n ((front_part ++ data_from first nodes) ++ e))) place
    ∙ ap (λ (xs : List ℕ). take (block_len * blocks_of_node (get_or nodes i d)) (drop (block_len * first + k) xs)) (append_assoc front_part (data_from first nodes) e)
    ∙ ap (take (block_len * blocks_of_node (get_or nodes i d))) (sym (drop-drop k (block_len * first) (front_part ++ rest)) ∙ ap (drop k) (drop_at front_part rest (block_len * first) long))
    ∙ in-data first nodes i d e h.contents l

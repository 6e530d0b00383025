-- The blocks of a node, one by one.
use Rattle.image_versions.specs.Shared.{addresses, direct}
use Rattle.fs_layout.specs.Widths.{block_len}
use Rattle.image_versions.specs.Shared.{largest_size}
use Rattle.mkfs.proofs.Vocabulary.{Version, ◌≡◌, ℕ, ◌+◌, ◌-◌, ◌*◌, ◌<◌, ◌≤◌, Bool, cond, nat_lt, List, ◌++◌, length, take, drop, replicate, get_or, ap, ◌∙◌, sym, ⊎_elim, arith, append_assoc, length-append, length-drop, cases_lt, lt-ltb, le-ltb, take_at, drop_at, drop-drop, take-append-le, drop-append-le, take-append-drop, length-take-le, sum_by_more_le, recovered, blocks_for, data_start, Node, padded, whole, image_with, node_bytes, indirect_block, blocks_before, blocks_of_node}
use Rattle.mkfs.proofs.Basics.{node_bytes-small, node_bytes-large, part-of-part, Fits, length-indirect_block, disk_of, block-at, recovered-there}
use Rattle.mkfs.proofs.DataBlocks.{node-there}

-- ---- in the image

pub node-block : (v : Version) (size ninodes : ℕ) (nodes : List Node) (j m : ℕ) (n : Node) → ninodes ≤ 65535 → Fits size ninodes nodes → j < length nodes
    → m < blocks_of_node (get_or nodes j n)
    → recovered (disk_of v size ninodes nodes) (data_start ninodes + blocks_before j nodes + m)
    ≡ take block_len (drop (block_len * m) (node_bytes (data_start ninodes + blocks_before j nodes) (get_or nodes j n).content))
node-block v size ninodes nodes j m n few h l within =
    let first : ℕ = data_start ninodes + blocks_before j nodes in
    let count : ℕ = blocks_of_node (get_or nodes j n) in
    let there : first + m < size = omega (arith, h.room, sum_by_more_le blocks_of_node nodes j n l) in
    let inside : block_len * m + block_len ≤ block_len * count = omega arith in
    let sum : block_len * first + block_len * m ≡ block_len * (first + m) = omega arith in
    recovered-there v size ninodes nodes (first + m) few h
    ∙ block-at v size ninodes nodes (first + m) h there
    ∙ sym (part-of-part (image_with v size ninodes nodes) block_len (block_len * m) (block_len * count) (block_len * first) (block_len * (first + m)) inside sum)
    ∙ ap (λ (xs : List ℕ). take block_len (drop (block_len * m) xs)) (node-there v size ninodes nodes j n h l)

-- ---- in the bytes of a node with more than twelve blocks

-- the content after the first twelve blocks is padded as the whole is
whole-parts : (content : List ℕ) → 12288 ≤ length content → whole content ≡ take 12288 content ++ whole (drop 12288 content)
unfolding whole padded
whole-parts content h =
    let a : List ℕ = take 12288 content in
    let d : List ℕ = drop 12288 content in
    let n : ℕ = block_len * blocks_for (length content) - length content in
    let m : ℕ = block_len * blocks_for (length d) - length d in
    let same : n ≡ m = omega (arith, length-drop 12288 content) in
    ap (λ (xs : List ℕ). xs ++ replicate n 0) (sym (take-append-drop 12288 content))
    ∙ append_assoc a d (replicate n 0)
    ∙ ap (λ (k : ℕ). a ++ (d ++ replicate k 0)) same

-- a block of the first part
block-before : (a rest : List ℕ) (k : ℕ) → block_len * k + block_len ≤ length a → take block_len (drop (block_len * k) (a ++ rest)) ≡ take block_len (drop (block_len * k) a)
block-before a rest k h =
    ap (take block_len) (drop-append-le (block_len * k) a rest (omega arith))
    ∙ take-append-le block_len (drop (block_len * k) a) rest (omega (arith, length-drop (block_len * k) a))

-- a block after the first n
block-behind : (a rest : List ℕ) (n k : ℕ) → length a ≡ block_len * n → take block_len (drop (block_len * (n + k)) (a ++ rest)) ≡ take block_len (drop (block_len * k) rest)
block-behind a rest n k h =
    let place : block_len * (n + k) ≡ block_len * n + block_len * k = omega arith in
    ap (λ (i : ℕ). take block_len (drop i (a ++ rest))) place
    ∙ ap (take block_len) (sym (drop-drop (block_len * k) (block_len * n) (a ++ rest)) ∙ ap (drop (block_len * k)) (drop_at a rest (block_len * n) h))

pub block-of-numbers : (first : ℕ) (content : List ℕ) → 12288 < length content → length content ≤ largest_size
    → take block_len (drop 12288 (node_bytes first content)) ≡ indirect_block first (length content)
block-of-numbers first content h few =
    let a : List ℕ = take 12288 content in
    let b : List ℕ = indirect_block first (length content) in
    let c : List ℕ = whole (drop 12288 content) in
    ap (λ (xs : List ℕ). take block_len (drop 12288 xs)) (node_bytes-large first content h)
    ∙ ap (take block_len) (drop_at a (b ++ c) 12288 (length-take-le 12288 content (omega arith)))
    ∙ take_at b c block_len (length-indirect_block first (length content) few)

-- ---- the blocks of the content

-- the place of block k of the content among a node's blocks
abbrev pub place : ℕ → ℕ
place k = cond (nat_lt k direct) k (k + 1)

pub place-below : (k : ℕ) → k < direct → place k ≡ k
place-below k h = ap (λ (b : Bool). cond b k (k + 1)) (lt-ltb k direct h)

pub place-behind : (k : ℕ) → direct ≤ k → place k ≡ k + 1
place-behind k h = ap (λ (b : Bool). cond b k (k + 1)) (le-ltb k direct h)

small-block : (first : ℕ) (content : List ℕ) (k : ℕ) → block_len * k < length content → length content ≤ 12288
    → take block_len (drop (block_len * place k) (node_bytes first content)) ≡ take block_len (drop (block_len * k) (whole content))
small-block first content k h few =
    let low : k < direct = omega arith in
    ap (λ (i : ℕ). take block_len (drop (block_len * i) (node_bytes first content))) (place-below k low)
    ∙ ap (λ (xs : List ℕ). take block_len (drop (block_len * k) xs)) (node_bytes-small first content few)

large-block-below : (first : ℕ) (content : List ℕ) (k : ℕ) → 12288 < length content → k < direct
    → take block_len (drop (block_len * place k) (node_bytes first content)) ≡ take block_len (drop (block_len * k) (whole content))
large-block-below first content k h low =
    let a : List ℕ = take 12288 content in
    let b : List ℕ = indirect_block first (length content) in
    let c : List ℕ = whole (drop 12288 content) in
    let long : length a ≡ 12288 = length-take-le 12288 content (omega arith) in
    let within : block_len * k + block_len ≤ length a = omega (arith, long) in
    ap (λ (i : ℕ). take block_len (drop (block_len * i) (node_bytes first content))) (place-below k low)
    ∙ ap (λ (xs : List ℕ). take block_len (drop (block_len * k) xs)) (node_bytes-large first content h)
    ∙ block-before a (b ++ c) k within
    ∙ sym (block-before a c k within)
    ∙ ap (λ (xs : List ℕ). take block_len (drop (block_len * k) xs)) (sym (whole-parts content (omega arith)))

large-block-behind : (first : ℕ) (content : List ℕ) (k : ℕ) → 12288 < length content → length content ≤ largest_size → direct ≤ k
    → take block_len (drop (block_len * place k) (node_bytes first content)) ≡ take block_len (drop (block_len * k) (whole content))
large-block-behind first content k h few high =
    let a : List ℕ = take 12288 content in
    let b : List ℕ = indirect_block first (length content) in
    let c : List ℕ = whole (drop 12288 content) in
    let i : ℕ = k - direct in
    let long : length a ≡ block_len * direct = length-take-le 12288 content (omega arith) in
    let longer : length (a ++ b) ≡ block_len * addresses = omega (arith, length-append a b, long, length-indirect_block first (length content) few) in
    let here : place k ≡ addresses + i = place-behind k high ∙ (let e : k + 1 ≡ addresses + i = omega arith in e) in
    let there : direct + i ≡ k = omega arith in
    ap (λ (n : ℕ). take block_len (drop (block_len * n) (node_bytes first content))) here
    ∙ ap (λ (xs : List ℕ). take block_len (drop (block_len * (addresses + i)) xs)) (node_bytes-large first content h ∙ sym (append_assoc a b c))
    ∙ block-behind (a ++ b) c addresses i longer
    ∙ sym (block-behind a c direct i long)
    ∙ ap (λ (n : ℕ). take block_len (drop (block_len * n) (a ++ c))) there
    ∙ ap (λ (xs : List ℕ). take block_len (drop (block_len * k) xs)) (sym (whole-parts content (omega arith)))

pub block-of-content : (first : ℕ) (content : List ℕ) (k : ℕ) → block_len * k < length content → length content ≤ largest_size
    → take block_len (drop (block_len * place k) (node_bytes first content)) ≡ take block_len (drop (block_len * k) (whole content))
block-of-content first content k h few =
    ⊎_elim
    (λ (more : 12288 < length content).
    ⊎_elim
    (λ (low : k < direct). large-block-below first content k more low)
    (λ (high : direct ≤ k). large-block-behind first content k more few high)
    (cases_lt k direct))
    (λ (most : length content ≤ 12288). small-block first content k h most)
    (cases_lt 12288 (length content))

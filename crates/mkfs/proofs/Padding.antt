-- Zeros after numbers, and numbers that rise.
use Rattle.image_versions.specs.Shared.{addresses, direct, most_content_blocks}
use Rattle.fs_layout.specs.Widths.{block_len}
use Rattle.image_versions.specs.Shared.{largest_size}
use Rattle.mkfs.proofs.Vocabulary.{◌≡◌, ℕ, zero, suc, ◌+◌, ◌-◌, ◌*◌, ◌/◌, ◌%◌, ◌<◌, ◌≤◌, List, [], ◌∷◌, ◌++◌, length, take, drop, replicate, refl, sym, ap, ◌∙◌, arith, length-append, append_assoc, set, get_or, ◌^◌, Bool, true, false, if◌then◌else◌, nat_lt, min, append-nil, drop-replicate, length-replicate, length-take-le, take_at, set_at, drop_more, length-range_with_len, range_with_len, overwrite, pow-lt, le-ltb, lt-ltb, Node, inode_for, padded, whole, bitmap, node_bytes, indirect_block, blocks_for, node_blocks}

-- written over zeros
pub overwrite-zeros : (n : ℕ) (xs : List ℕ) → overwrite (replicate n 0) 0 xs ≡ padded n xs
unfolding padded
overwrite-zeros n xs =
    let front : 0 + length xs ≡ length xs = omega arith in
    ap (λ (i : ℕ). xs ++ drop i (replicate n 0)) front ∙ ap (λ (ys : List ℕ). xs ++ ys) (drop-replicate (length xs) n 0)

pub take-padded : (n k : ℕ) (xs : List ℕ) → length xs ≡ k → take k (padded n xs) ≡ xs
unfolding padded
take-padded n k xs h = take_at xs (replicate (n - length xs) 0) k h

pub length-padded : (n : ℕ) (xs : List ℕ) → length xs ≤ n → length (padded n xs) ≡ n
unfolding padded
length-padded n xs h =
    let none : ℕ = 0 in
    omega (arith, length-append xs (replicate (n - length xs) none), length-replicate (n - length xs) none)

pub length-whole : (xs : List ℕ) → length (whole xs) ≡ block_len * blocks_for (length xs)
unfolding whole
length-whole xs = length-padded (block_len * blocks_for (length xs)) xs (omega arith)

-- the zeros that are missing up to a whole block
pub whole-missing : (xs : List ℕ) (m : ℕ) → m ≡ (block_len - length xs % block_len) % block_len → xs ++ replicate m 0 ≡ whole xs
unfolding whole padded
whole-missing xs m h =
    let count : m ≡ block_len * blocks_for (length xs) - length xs = omega arith in
    ap (λ (i : ℕ). xs ++ replicate i 0) count

-- the first of the numbers that rise, and then zeros
pub range_with_len-one : (a n : ℕ) → range_with_len a (n + 1) ≡ range_with_len a n ++ (a + n) ∷ []
range_with_len-one a zero = let e : a ≡ a + 0 = omega arith in ap (λ (i : ℕ). i ∷ []) e
range_with_len-one a (suc n) =
    let count : suc n + 1 ≡ suc (n + 1) = omega arith in
    let next : a + 1 + n ≡ a + suc n = omega arith in
    ap (range_with_len a) count
    ∙ ap (λ (xs : List ℕ). a ∷ xs) (range_with_len-one (a + 1) n)
    ∙ ap (λ (i : ℕ). a ∷ (range_with_len (a + 1) n ++ i ∷ [])) next

pub range-padded : (n k first : ℕ) → range_with_len first k ++ drop k (replicate n 0) ≡ padded n (range_with_len first k)
unfolding padded
range-padded n k first =
    let long : n - k ≡ n - length (range_with_len first k) = ap (λ (i : ℕ). n - i) (sym (length-range_with_len first k)) in
    ap (λ (xs : List ℕ). range_with_len first k ++ xs) (drop-replicate k n 0 ∙ ap (λ (i : ℕ). replicate i 0) long)

-- one more of them, in its place
pub range-set : (first k : ℕ) (old : List ℕ) → k < length old
    → set (range_with_len first k ++ drop k old) k (first + k) ≡ range_with_len first (k + 1) ++ drop (k + 1) old
range-set first k old h =
    ap (λ (xs : List ℕ). set (range_with_len first k ++ xs) k (first + k)) (drop_more old k 0 h)
    ∙ set_at (range_with_len first k) (get_or old k 0) (drop (k + 1) old) (first + k) k (length-range_with_len first k)
    ∙ sym (append_assoc (range_with_len first k) ((first + k) ∷ []) (drop (k + 1) old))
    ∙ ap (λ (xs : List ℕ). xs ++ drop (k + 1) old) (sym (range_with_len-one first k))

-- the parts of a bitmap, as they are appended
pub bitmap-parts : (old : List ℕ) (used : ℕ)
    → ((old ++ replicate (used / 8) 255) ++ (1 * 2 ^ (used % 8) % 256 - 1) ∷ []) ++ replicate (1023 - used / 8) 0 ≡ old ++ bitmap used
unfolding bitmap padded
bitmap-parts old used =
    let front : List ℕ = replicate (used / 8) 255 in
    let bits : ℕ = used % 8 in
    let few : bits < 8 = omega arith in
    let part : 2 ^ bits < 2 ^ 8 = pow-lt few in
    let byte : 1 * 2 ^ bits % 256 - 1 ≡ 2 ^ bits - 1 = omega arith in
    let here : List ℕ = front ++ (2 ^ bits - 1) ∷ [] in
    let ff : ℕ = 255 in
    let long : length here ≡ used / 8 + 1 = omega (arith, length-append front ((2 ^ bits - 1) ∷ []), length-replicate (used / 8) ff) in
    let count : 1023 - used / 8 ≡ block_len - length here = omega arith in
    ap (λ (b : ℕ). ((old ++ front) ++ b ∷ []) ++ replicate (1023 - used / 8) 0) byte
    ∙ ap (λ (xs : List ℕ). xs ++ replicate (1023 - used / 8) 0) (append_assoc old front ((2 ^ bits - 1) ∷ []))
    ∙ append_assoc old here (replicate (1023 - used / 8) 0)
    ∙ ap (λ (n : ℕ). old ++ (here ++ replicate n 0)) count

-- as many bytes as twelve blocks have are whole
pub whole-front : (content : List ℕ) → 12288 ≤ length content → whole (take 12288 content) ≡ take 12288 content
unfolding whole padded
whole-front content h =
    let a : List ℕ = take 12288 content in
    let long : length a ≡ 12288 = length-take-le 12288 content h in
    let none : block_len * blocks_for (length a) - length a ≡ 0 = omega (arith, long) in
    ap (λ (n : ℕ). a ++ replicate n 0) none ∙ append-nil a

pub node_bytes-small : (first : ℕ) (content : List ℕ) → length content ≤ 12288 → node_bytes first content ≡ whole content
unfolding node_bytes
node_bytes-small first content h = rw (le-ltb 12288 (length content) h) refl

pub node_bytes-large : (first : ℕ) (content : List ℕ) → 12288 < length content
    → node_bytes first content
    ≡ take 12288 content ++ (indirect_block first (length content) ++ whole (drop 12288 content))
unfolding node_bytes
node_bytes-large first content h = rw (lt-ltb 12288 (length content) h) refl

pub node_blocks-few : (size : ℕ) → size ≤ largest_size → node_blocks size ≤ 269
node_blocks-few size h =
    let one : (b : Bool) → (if b then 1 else 0) ≤ 1 = λ b. elim b as (λ v. (if v then 1 else 0) ≤ 1) [ true ↦ omega arith | false ↦ omega arith ] in
    let blocks : blocks_for size ≤ most_content_blocks = omega arith in
    omega (arith, one (nat_lt direct (blocks_for size)))

pub length-addrs : (first : ℕ) (node : Node) → length (inode_for first node).addrs ≡ addresses
unfolding inode_for
length-addrs first node =
    let n : ℕ = min (node_blocks (length node.content)) addresses in
    length-padded addresses (range_with_len first n) (omega (arith, length-range_with_len first n))

-- Laws of numbers in bytes.
use Rattle.fs_layout.proofs.Vocabulary.{◌≡◌, ℕ, zero, suc, ◌+◌, ◌-◌, ◌*◌, ◌/◌, ◌%◌, ◌^◌, ◌<◌, ◌≤◌, List, [], ◌∷◌, ◌++◌, length, take, drop, get_or, refl, sym, ap, ◌∙◌, arith, append_assoc, length-append, drop_at, drop-drop, drop_all, drop_more, get_or-drop, drop-take, flat_map, AllByRecursion, little_number, little_number-reads_back, little_from-take, little_from-lt, u16_bytes, u32_bytes, u16_at, u32_at, u32s_at, IsBytes}

pub length-u16_bytes : (n : ℕ) → length (u16_bytes n) ≡ 2
unfolding u16_bytes
length-u16_bytes n = refl

pub length-u32_bytes : (n : ℕ) → length (u32_bytes n) ≡ 4
unfolding u32_bytes
length-u32_bytes n = refl

pub length-u32s_bytes : (ns : List ℕ) → length (flat_map u32_bytes ns) ≡ 4 * length ns
length-u32s_bytes [] = refl
length-u32s_bytes (n ∷ ns) = omega (arith, length-append (u32_bytes n) (flat_map u32_bytes ns), length-u32_bytes n, length-u32s_bytes ns)

-- a number at a place of a part is at the matching place of the whole
pub u16_at-part : (bytes : List ℕ) (at n k : ℕ) → k + 2 ≤ n → u16_at (take n (drop at bytes)) k ≡ u16_at bytes (at + k)
unfolding u16_at
u16_at-part bytes at n k h =
    let split : n ≡ k + (n - k) = omega arith in
    ap (λ (m : ℕ). little_number 2 (drop k (take m (drop at bytes)))) split
    ∙ ap (little_number 2) (drop-take k (n - k) (drop at bytes))
    ∙ little_from-take 0 2 (n - k) (drop k (drop at bytes)) (omega arith)
    ∙ ap (little_number 2) (drop-drop k at bytes)

pub u32_at-part : (bytes : List ℕ) (at n k : ℕ) → k + 4 ≤ n → u32_at (take n (drop at bytes)) k ≡ u32_at bytes (at + k)
unfolding u32_at
u32_at-part bytes at n k h =
    let split : n ≡ k + (n - k) = omega arith in
    ap (λ (m : ℕ). little_number 4 (drop k (take m (drop at bytes)))) split
    ∙ ap (little_number 4) (drop-take k (n - k) (drop at bytes))
    ∙ little_from-take 0 4 (n - k) (drop k (drop at bytes)) (omega arith)
    ∙ ap (little_number 4) (drop-drop k at bytes)

pub u32s_at-part : (c : ℕ) (bytes : List ℕ) (at n k : ℕ) → k + 4 * c ≤ n → u32s_at c (take n (drop at bytes)) k ≡ u32s_at c bytes (at + k)
unfolding u32s_at
u32s_at-part zero bytes at n k h = refl
u32s_at-part (suc c) bytes at n k h =
    let first = u32_at-part bytes at n k (omega arith) in
    let others = u32s_at-part c bytes at n (k + 4) (omega arith) in
    let same : at + (k + 4) ≡ at + k + 4 = omega arith in
    ap (λ (x : ℕ). x ∷ u32s_at c (take n (drop at bytes)) (k + 4)) first
    ∙ ap (λ (xs : List ℕ). u32_at bytes (at + k) ∷ xs) (others ∙ ap (u32s_at c bytes) same)

-- one more
pub u32s_at-more : (c : ℕ) (bytes : List ℕ) (at : ℕ) → u32s_at (c + 1) bytes at ≡ u32s_at c bytes at ++ u32_at bytes (at + 4 * c) ∷ []
unfolding u32s_at
u32s_at-more zero bytes at = ap (λ (k : ℕ). u32_at bytes k ∷ []) (omega arith)
u32s_at-more (suc c) bytes at =
    let place : at + 4 + 4 * c ≡ at + 4 * suc c = omega arith in
    let count : suc c + 1 ≡ suc (c + 1) = omega arith in
    ap (λ (n : ℕ). u32s_at n bytes at) count
    ∙ ap (λ (xs : List ℕ). u32_at bytes at ∷ xs) (u32s_at-more c bytes (at + 4) ∙ ap (λ (k : ℕ). u32s_at c bytes (at + 4) ++ u32_at bytes k ∷ []) place)

pub length-u32s_at : (c : ℕ) (bytes : List ℕ) (at : ℕ) → length (u32s_at c bytes at) ≡ c
unfolding u32s_at
length-u32s_at zero bytes at = refl
length-u32s_at (suc c) bytes at = omega (arith, length-u32s_at c bytes (at + 4))

-- what was written is read
pub u16_at-bytes : (n : ℕ) (rest : List ℕ) → n < 2 ^ 16 → u16_at (u16_bytes n ++ rest) 0 ≡ n
unfolding u16_at u16_bytes
u16_at-bytes n rest h = little_number-reads_back 2 n rest h

pub u32_at-bytes : (n : ℕ) (rest : List ℕ) → n < 2 ^ 32 → u32_at (u32_bytes n ++ rest) 0 ≡ n
unfolding u32_at u32_bytes
u32_at-bytes n rest h = little_number-reads_back 4 n rest h

-- after other bytes
pub u16_at-behind : (front rest : List ℕ) (n k : ℕ) → length front ≡ n → u16_at (front ++ rest) (n + k) ≡ u16_at rest k
unfolding u16_at
u16_at-behind front rest n k h = ap (little_number 2) (sym (drop-drop k n (front ++ rest)) ∙ ap (drop k) (drop_at front rest n h))

pub u32_at-behind : (front rest : List ℕ) (n k : ℕ) → length front ≡ n → u32_at (front ++ rest) (n + k) ≡ u32_at rest k
unfolding u32_at
u32_at-behind front rest n k h = ap (little_number 4) (sym (drop-drop k n (front ++ rest)) ∙ ap (drop k) (drop_at front rest n h))

pub u32s_at-behind : (c : ℕ) (front rest : List ℕ) (n k : ℕ) → length front ≡ n → u32s_at c (front ++ rest) (n + k) ≡ u32s_at c rest k
unfolding u32s_at
u32s_at-behind zero front rest n k h = refl
u32s_at-behind (suc c) front rest n k h =
    let first = u32_at-behind front rest n k h in
    let same : n + k + 4 ≡ n + (k + 4) = omega arith in
    let others = ap (u32s_at c (front ++ rest)) same ∙ u32s_at-behind c front rest n (k + 4) h in
    ap (λ (x : ℕ). x ∷ u32s_at c (front ++ rest) (n + k + 4)) first ∙ ap (λ (xs : List ℕ). u32_at rest k ∷ xs) others

pub u32s_at-bytes : (ns rest : List ℕ) → AllByRecursion (λ n. n < 2 ^ 32) ns → u32s_at (length ns) (flat_map u32_bytes ns ++ rest) 0 ≡ ns
unfolding u32s_at
u32s_at-bytes [] rest h = refl
u32s_at-bytes (n ∷ ns) rest h =
    let regroup : flat_map u32_bytes (n ∷ ns) ++ rest ≡ u32_bytes n ++ (flat_map u32_bytes ns ++ rest) = append_assoc (u32_bytes n) (flat_map u32_bytes ns) rest in
    let first = ap (λ (bs : List ℕ). u32_at bs 0) regroup ∙ u32_at-bytes n (flat_map u32_bytes ns ++ rest) h.0 in
    let others = ap (λ (bs : List ℕ). u32s_at (length ns) bs 4) regroup
    ∙ u32s_at-behind (length ns) (u32_bytes n) (flat_map u32_bytes ns ++ rest) 4 0 (length-u32_bytes n)
    ∙ u32s_at-bytes ns rest h.1 in
    ap (λ (x : ℕ). x ∷ u32s_at (length ns) (flat_map u32_bytes (n ∷ ns) ++ rest) 4) first ∙ ap (λ (xs : List ℕ). n ∷ xs) others

-- the bytes of a number that is made of bytes
two : (a b : ℕ) → a < 256 → b < 256 → ((a + 256 * (b + 0)) % 256 ≡ a) × ((a + 256 * (b + 0)) / 256 % 256 ≡ b)
two a b ha hb = (omega arith, omega arith)

four : (a b c d : ℕ) → a < 256 → b < 256 → c < 256 → d < 256
    → ((a + 256 * (b + 256 * (c + 256 * (d + 0)))) % 256 ≡ a) × ((a + 256 * (b + 256 * (c + 256 * (d + 0)))) / 256 % 256 ≡ b)
    × ((a + 256 * (b + 256 * (c + 256 * (d + 0)))) / 65536 % 256 ≡ c) × ((a + 256 * (b + 256 * (c + 256 * (d + 0)))) / 16777216 % 256 ≡ d)
four a b c d ha hb hc hd = (omega arith, omega arith, omega arith, omega arith)

-- what was read is written
pub u16_bytes-at : (bytes : List ℕ) (k : ℕ) → k + 2 ≤ length bytes → IsBytes bytes → u16_bytes (u16_at bytes k) ++ drop (k + 2) bytes ≡ drop k bytes
unfolding u16_at u16_bytes
u16_bytes-at bytes k h fits =
    let a : ℕ = get_or bytes k 0 in
    let b : ℕ = get_or bytes (k + 1) 0 in
    let g0 : get_or (drop k bytes) 0 0 ≡ a = get_or-drop k bytes 0 0 ∙ ap (λ (i : ℕ). get_or bytes i 0) (omega arith) in
    let g1 : get_or (drop k bytes) 1 0 ≡ b = get_or-drop k bytes 1 0 in
    let cells : drop k bytes ≡ a ∷ b ∷ drop (k + 2) bytes =
    drop_more bytes k 0 (omega arith) ∙ ap (λ (xs : List ℕ). a ∷ xs) (drop_more bytes (k + 1) 0 (omega arith) ∙ ap (λ (i : ℕ). b ∷ drop i bytes) (omega arith)) in
    let t = two a b (fits k) (fits (k + 1)) in
    rw (g0, g1, t.0, t.1) (sym cells)

pub u32_bytes-at : (bytes : List ℕ) (k : ℕ) → k + 4 ≤ length bytes → IsBytes bytes → u32_bytes (u32_at bytes k) ++ drop (k + 4) bytes ≡ drop k bytes
unfolding u32_at u32_bytes
u32_bytes-at bytes k h fits =
    let a : ℕ = get_or bytes k 0 in
    let b : ℕ = get_or bytes (k + 1) 0 in
    let c : ℕ = get_or bytes (k + 2) 0 in
    let d : ℕ = get_or bytes (k + 3) 0 in
    let g0 : get_or (drop k bytes) 0 0 ≡ a = get_or-drop k bytes 0 0 ∙ ap (λ (i : ℕ). get_or bytes i 0) (omega arith) in
    let g1 : get_or (drop k bytes) 1 0 ≡ b = get_or-drop k bytes 1 0 in
    let g2 : get_or (drop k bytes) 2 0 ≡ c = get_or-drop k bytes 2 0 in
    let g3 : get_or (drop k bytes) 3 0 ≡ d = get_or-drop k bytes 3 0 in
    let c3 : drop (k + 3) bytes ≡ d ∷ drop (k + 4) bytes = drop_more bytes (k + 3) 0 (omega arith) ∙ ap (λ (i : ℕ). d ∷ drop i bytes) (omega arith) in
    let c2 : drop (k + 2) bytes ≡ c ∷ d ∷ drop (k + 4) bytes = drop_more bytes (k + 2) 0 (omega arith) ∙ ap (λ (i : ℕ). c ∷ drop i bytes) (omega arith) ∙ ap (λ (xs : List ℕ). c ∷ xs) c3 in
    let c1 : drop (k + 1) bytes ≡ b ∷ c ∷ d ∷ drop (k + 4) bytes = drop_more bytes (k + 1) 0 (omega arith) ∙ ap (λ (i : ℕ). b ∷ drop i bytes) (omega arith) ∙ ap (λ (xs : List ℕ). b ∷ xs) c2 in
    let cells : drop k bytes ≡ a ∷ b ∷ c ∷ d ∷ drop (k + 4) bytes = drop_more bytes k 0 (omega arith) ∙ ap (λ (xs : List ℕ). a ∷ xs) c1 in
    let t = four a b c d (fits k) (fits (k + 1)) (fits (k + 2)) (fits (k + 3)) in
    rw (g0, g1, g2, g3, t.0, t.1, t.2, t.3) (sym cells)

pub u32s_bytes-at : (c : ℕ) (bytes : List ℕ) (k : ℕ) → k + 4 * c ≡ length bytes → IsBytes bytes → flat_map u32_bytes (u32s_at c bytes k) ≡ drop k bytes
unfolding u32s_at
u32s_bytes-at zero bytes k h fits = sym (drop_all k bytes (omega arith))
u32s_bytes-at (suc c) bytes k h fits =
    ap (λ (xs : List ℕ). u32_bytes (u32_at bytes k) ++ xs) (u32s_bytes-at c bytes (k + 4) (omega arith) fits) ∙ u32_bytes-at bytes k (omega arith) fits

-- a number of two bytes
pub u16_at-lt : (bytes : List ℕ) (k : ℕ) → IsBytes bytes → u16_at bytes k < 2 ^ 16
unfolding u16_at
u16_at-lt bytes k fits = little_from-lt 0 2 (drop k bytes) (λ i. omega (arith, get_or-drop k bytes i 0, fits (k + i)))

pub u32_at-lt : (bytes : List ℕ) (k : ℕ) → IsBytes bytes → u32_at bytes k < 2 ^ 32
unfolding u32_at
u32_at-lt bytes k fits = little_from-lt 0 4 (drop k bytes) (λ i. omega (arith, get_or-drop k bytes i 0, fits (k + i)))

-- The bits of the bitmap: just those of the first blocks are set.
use Rattle.fs_layout.specs.Widths.{block_len}
use Rattle.mkfs.proofs.Vocabulary.{Version, ◌≡◌, ℕ, ◌+◌, ◌-◌, ◌/◌, ◌%◌, ◌^◌, ◌<◌, ◌≤◌, Bool, true, false, eqb, nat_lt, List, [], ◌∷◌, ◌++◌, length, replicate, get_or, refl, ap, ◌∙◌, sym, ⊎_elim, arith, length-append, bit_at, cases_lt, lt-ltb, le-ltb, length-replicate, get_or_append_left, get_or-append_right, get_or_at, get_or-replicate, bit_at-zero, bit_at_ones, bit_at_ones_above, Super, bit_of, recovered, is_marked, data_start, bitmap_start, Node, bitmap, padded, used_by}
use Rattle.mkfs.proofs.Basics.{Fits, disk_of, sizes-there, recovered-there}
use Rattle.mkfs.proofs.DataBlocks.{bitmap-there}

-- ---- its bytes

-- the bytes up to the last one that isn't 0
ones : ℕ → List ℕ
ones used = replicate (used / 8) 255 ++ (2 ^ (used % 8) - 1) ∷ []

length-ones : (used : ℕ) → length (ones used) ≡ used / 8 + 1
unfolding ones
length-ones used =
    let full : ℕ = 255 in
    omega (arith, length-append (replicate (used / 8) 255) ((2 ^ (used % 8) - 1) ∷ []), length-replicate (used / 8) full)

byte-full : (used i : ℕ) → i < used / 8 → get_or (bitmap used) i 0 ≡ 255
unfolding bitmap padded ones
byte-full used i h =
    let full : ℕ = 255 in
    let front : List ℕ = replicate (used / 8) full in
    let within : i < length front = omega (arith, length-replicate (used / 8) full) in
    get_or_append_left (ones used) (replicate (block_len - length (ones used)) 0) 0 i (omega (arith, length-ones used))
    ∙ get_or_append_left front ((2 ^ (used % 8) - 1) ∷ []) 0 i within
    ∙ get_or-replicate (used / 8) i 255 0 h

byte-last : (used : ℕ) → get_or (bitmap used) (used / 8) 0 ≡ 2 ^ (used % 8) - 1
unfolding bitmap padded ones
byte-last used =
    let full : ℕ = 255 in
    get_or_append_left (ones used) (replicate (block_len - length (ones used)) 0) 0 (used / 8) (omega (arith, length-ones used))
    ∙ get_or_at (replicate (used / 8) 255) (2 ^ (used % 8) - 1) [] 0 (used / 8) (length-replicate (used / 8) full)

byte-free : (used i : ℕ) → used / 8 < i → i < block_len → get_or (bitmap used) i 0 ≡ 0
unfolding bitmap padded ones
byte-free used i h l =
    let k : ℕ = length (ones used) in
    let long : k ≡ used / 8 + 1 = length-ones used in
    get_or-append_right (ones used) (replicate (block_len - k) 0) (used / 8 + 1) i 0 long (omega arith)
    ∙ get_or-replicate (block_len - k) (i - (used / 8 + 1)) 0 0 (omega arith)

-- ---- its bits

-- the bit of b, from the byte that has it
bit-in : (used b byte bit : ℕ) (want : Bool) → get_or (bitmap used) (b / 8) 0 ≡ byte → bit_at byte (b % 8) ≡ bit → eqb bit 1 ≡ want
    → bit_of (bitmap used) b ≡ want
bit-in used b byte bit want e f g = ap (λ (n : ℕ). eqb (bit_at n (b % 8)) 1) e ∙ ap (λ (n : ℕ). eqb n 1) f ∙ g

bit-full : (used b : ℕ) → b / 8 < used / 8 → bit_of (bitmap used) b ≡ nat_lt b used
bit-full used b h =
    let below : b < used = omega arith in
    let low : b % 8 < 8 = omega arith in
    bit-in used b 255 1 true (byte-full used (b / 8) h) (bit_at_ones 8 (b % 8) low) refl ∙ sym (lt-ltb b used below)

bit-last : (used b : ℕ) → b / 8 ≡ used / 8 → bit_of (bitmap used) b ≡ nat_lt b used
bit-last used b h =
    let r : ℕ = used % 8 in
    let byte : get_or (bitmap used) (b / 8) 0 ≡ 2 ^ r - 1 = ap (λ (i : ℕ). get_or (bitmap used) i 0) h ∙ byte-last used in
    ⊎_elim
    (λ (l : b % 8 < r).
    let below : b < used = omega arith in
    bit-in used b (2 ^ r - 1) 1 true byte (bit_at_ones r (b % 8) l) refl ∙ sym (lt-ltb b used below))
    (λ (l : r ≤ b % 8).
    let above : used ≤ b = omega arith in
    bit-in used b (2 ^ r - 1) 0 false byte (bit_at_ones_above r (b % 8) l) refl ∙ sym (le-ltb b used above))
    (cases_lt (b % 8) r)

bit-free : (used b : ℕ) → b < 8192 → used / 8 < b / 8 → bit_of (bitmap used) b ≡ nat_lt b used
bit-free used b few h =
    let above : used ≤ b = omega arith in
    let within : b / 8 < block_len = omega arith in
    bit-in used b 0 0 false (byte-free used (b / 8) h within) (bit_at-zero (b % 8)) refl ∙ sym (le-ltb b used above)

pub bits-of : (used b : ℕ) → b < 8192 → bit_of (bitmap used) b ≡ nat_lt b used
bits-of used b few =
    ⊎_elim
    (λ (l : b / 8 < used / 8). bit-full used b l)
    (λ (l : used / 8 ≤ b / 8).
    ⊎_elim
    (λ (m : used / 8 < b / 8). bit-free used b few m)
    (λ (m : b / 8 ≤ used / 8). let same : b / 8 ≡ used / 8 = omega arith in bit-last used b same)
    (cases_lt (used / 8) (b / 8)))
    (cases_lt (b / 8) (used / 8))

pub marked-there : (v : Version) (size ninodes : ℕ) (nodes : List Node) (b : ℕ) → ninodes ≤ 65535 → Fits size ninodes nodes → b < 8192
    → is_marked (disk_of v size ninodes nodes) b ≡ nat_lt b (used_by (data_start ninodes) nodes)
marked-there v size ninodes nodes b n h few =
    let disk : List (List ℕ) = disk_of v size ninodes nodes in
    ap (λ (s : Super). bit_of (recovered disk s.bmapstart) b) (sizes-there v size ninodes nodes n h)
    ∙ ap (λ (block : List ℕ). bit_of block b) (recovered-there v size ninodes nodes (bitmap_start ninodes) n h ∙ bitmap-there v size ninodes nodes h)
    ∙ bits-of (used_by (data_start ninodes) nodes) b few

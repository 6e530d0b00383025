-- The first clear bit, by the first byte that isn't full.
use Rattle.bitmap_alloc.proofs.Vocabulary.{◌≡◌, ◌≢◌, ℕ, ◌+◌, ◌*◌, ◌/◌, ◌%◌, ◌<◌, ◌≤◌, List, get_or, false, not, Some, None, refl, sym, arith, ⊎_elim, bit_at_ones, cases_eq, bit_at, bit_of, first_clear_below}
use Rattle.bitmap_alloc.proofs.First.{none_below, this_below}

set_bit_is : (bitmap : List ℕ) (k : ℕ) → bit_at (get_or bitmap (k / 8) 0) (k % 8) ≡ 1 → not (bit_of bitmap k) ≡ false
set_bit_is bitmap k e = rw e refl

-- the bits of full bytes are set
full_bits : (bitmap : List ℕ) (byte : ℕ) → ((i : ℕ) → i < byte → get_or bitmap i 0 ≡ 255)
    → (k : ℕ) → k < 8 * byte → not (bit_of bitmap k) ≡ false
full_bits bitmap byte full k h = set_bit_is bitmap k (rw (full (k / 8) (omega arith)) (bit_at_ones 8 (k % 8) (omega arith)))

-- and those of the next byte, up to its first clear one
bits_before : (bitmap : List ℕ) (byte low : ℕ) → ((i : ℕ) → i < byte → get_or bitmap i 0 ≡ 255)
    → ((i : ℕ) → i < low → bit_at (get_or bitmap byte 0) i ≡ 1) → low < 8
    → (k : ℕ) → k < 8 * byte + low → not (bit_of bitmap k) ≡ false
bits_before bitmap byte low full set l k h =
    ⊎_elim
    (λ (e : k / 8 ≡ byte). set_bit_is bitmap k (rw e (set (k % 8) (omega arith))))
    (λ (d : k / 8 ≢ byte). full_bits bitmap byte full k (omega arith))
    (cases_eq (k / 8) byte)

pub all_full : (bitmap : List ℕ) (limit byte : ℕ) → ((i : ℕ) → i < byte → get_or bitmap i 0 ≡ 255) → limit ≤ 8 * byte
    → None ≡ first_clear_below limit bitmap
unfolding first_clear_below
all_full bitmap limit byte full h = sym (none_below _ limit (λ k l. full_bits bitmap byte full k (omega arith)))

pub clear_past : (bitmap : List ℕ) (limit byte low : ℕ) → ((i : ℕ) → i < byte → get_or bitmap i 0 ≡ 255)
    → ((i : ℕ) → i < low → bit_at (get_or bitmap byte 0) i ≡ 1) → low < 8 → limit ≤ 8 * byte + low
    → None ≡ first_clear_below limit bitmap
unfolding first_clear_below
clear_past bitmap limit byte low full set l h = sym (none_below _ limit (λ k m. bits_before bitmap byte low full set l k (omega arith)))

pub clear_there : (bitmap : List ℕ) (limit byte low : ℕ) → ((i : ℕ) → i < byte → get_or bitmap i 0 ≡ 255)
    → ((i : ℕ) → i < low → bit_at (get_or bitmap byte 0) i ≡ 1) → low < 8 → bit_at (get_or bitmap byte 0) low ≡ 0 → 8 * byte + low < limit
    → Some (8 * byte + low) ≡ first_clear_below limit bitmap
unfolding first_clear_below
clear_there bitmap limit byte low full set l clear h =
    let q : (8 * byte + low) / 8 ≡ byte = omega arith in
    let r : (8 * byte + low) % 8 ≡ low = omega arith in
    sym (this_below _ limit (8 * byte + low) h (rw (q, r, clear) refl) (bits_before bitmap byte low full set l))

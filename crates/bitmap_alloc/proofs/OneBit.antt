-- One bit of a bitmap changed.
use Rattle.bitmap_alloc.proofs.Vocabulary.{◌≡◌, ◌≢◌, ℕ, ◌-◌, ◌/◌, ◌%◌, ◌^◌, ◌<◌, get_or, true, false, bit_and, bit_or, arith, eq-eqb, w8, bit_at, bit_at_or, bit_at_and, bit_at_not, bit_at-pow_same, bit_at-pow_other, pow_below, ne_eqb, changed_bit, with_bit, without_bit, SetsOneBit, ClearsOneBit}

set_there : (old k : ℕ) → bit_at (bit_or old (2 ^ k)) k ≡ 1
set_there old k = omega (arith, bit_at_or old (2 ^ k) k, bit_at-pow_same k)

set_elsewhere : (old k i : ℕ) → i ≢ k → bit_at (bit_or old (2 ^ k)) i ≡ bit_at old i
set_elsewhere old k i n = omega (arith, bit_at_or old (2 ^ k) i, bit_at-pow_other k i n)

pub sets_one : SetsOneBit
unfolding with_bit
sets_one bitmap b c h =
    let old : ℕ = get_or bitmap (b / 8) 0 in
    changed_bit bitmap b c (bit_or old (2 ^ (b % 8))) true (omega arith)
    (eq-eqb _ _ (set_there old (b % 8)))
    (λ i l n. set_elsewhere old (b % 8) i n)

clear_there : (old k : ℕ) → k < 8 → bit_at (bit_and old (255 - 2 ^ k)) k ≡ 0
clear_there old k h = omega (arith, bit_at_and old (255 - 2 ^ k) k, bit_at_not w8 (2 ^ k) k (pow_below k 8 h) h, bit_at-pow_same k)

clear_elsewhere : (old k i : ℕ) → k < 8 → i < 8 → i ≢ k → bit_at (bit_and old (255 - 2 ^ k)) i ≡ bit_at old i
clear_elsewhere old k i h l n = omega (arith, bit_at_and old (255 - 2 ^ k) i, bit_at_not w8 (2 ^ k) i (pow_below k 8 h) l, bit_at-pow_other k i n)

pub clears_one : ClearsOneBit
unfolding without_bit
clears_one bitmap b c h =
    let old : ℕ = get_or bitmap (b / 8) 0 in
    changed_bit bitmap b c (bit_and old (255 - 2 ^ (b % 8))) false (omega arith)
    (ne_eqb _ _ (λ e. omega (arith, clear_there old (b % 8) (omega arith))))
    (λ i l n. clear_elsewhere old (b % 8) i (omega arith) l n)

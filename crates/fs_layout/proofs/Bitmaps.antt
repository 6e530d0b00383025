-- A byte of a bitmap with one bit changed.
use Rattle.fs_layout.proofs.Vocabulary.{◌≡◌, ◌≢◌, ℕ, ◌/◌, ◌%◌, ◌<◌, Bool, cond, eqb, List, length, get_or, set, refl, ⊎_elim, arith, get_or-set_same, get_or-set_other, cases_eq, eq-eqb, ne_eqb, bit_at, bit_of}

pub changed_bit : (block : List ℕ) (b c v : ℕ) (want : Bool) → b / 8 < length block
    → eqb (bit_at v (b % 8)) 1 ≡ want
    → ((k : ℕ) → k < 8 → k ≢ b % 8 → bit_at v k ≡ bit_at (get_or block (b / 8) 0) k)
    → bit_of (set block (b / 8) v) c ≡ cond (eqb c b) want (bit_of block c)
changed_bit block b c v want h same others =
    ⊎_elim
    (λ (e : c ≡ b). rw (e, eq-eqb b b refl, get_or-set_same block (b / 8) v 0 h) same)
    (λ (n : c ≢ b).
    rw (ne_eqb c b n)
    (⊎_elim
    (λ (e : c / 8 ≡ b / 8).
    rw (e, get_or-set_same block (b / 8) v 0 h, others (c % 8) (omega arith) (omega arith)) refl)
    (λ (m : c / 8 ≢ b / 8). rw (get_or-set_other block (b / 8) (c / 8) v 0 m) refl)
    (cases_eq (c / 8) (b / 8))))
    (cases_eq c b)

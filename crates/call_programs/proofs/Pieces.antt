-- What a write has: a piece at least.
use Rattle.call_programs.proofs.Vocabulary.{◌≡◌, ◌<◌, ◌≤◌, ℕ, ◌+◌, ◌-◌, ◌==◌, ◌/◌, if◌then◌else◌, refl, Bool, true, false, List, ◌∷◌, length, arith, le-div_iff_mul-le, piece_count}

some_of : (n : ℕ) (none : Bool) → 0 < n → (n == 0) ≡ none → 0 < (if none then 1 else (n + (3072 - 1)) / 3072)
some_of n true some e = omega arith
some_of n false some e = let a : 1 ≤ (n + (3072 - 1)) / 3072 = (le-div_iff_mul-le {k = 3072} {x = 1} {y = n + (3072 - 1)} (omega arith)).1 (omega (arith, some)) in omega (arith, a)

pub some_pieces : (b : ℕ) (bs : List ℕ) → 0 + (piece_count (b ∷ bs) - 1) + 1 ≡ piece_count (b ∷ bs)
some_pieces b bs = last (piece_count (b ∷ bs)) (some_of (length (b ∷ bs)) (length (b ∷ bs) == 0) (omega arith) refl)
  where
    last : (k : ℕ) → 0 < k → 0 + (k - 1) + 1 ≡ k
    last k pos = omega (arith, pos)

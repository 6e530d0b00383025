-- The programs, whatever their operations answer.
use Rattle.bitmap_alloc.proofs.Vocabulary.{◌≡◌, ◌+◌, ℕ, List, [], ◌∷◌, Bool, true, false, not, Option, Some, None, refl, unwrap_or, bit_of, Do, bind, unmarked, Get, Read, Put, P, fetch, read_unless, first_clear_below, marked_by, without_bit, zeros, give_zeros, zero_block, zero_found, take_first, clear_bit, Oracle, outcome, recorded, fetched, TakesFirstClear, TakesTheFirst, FreesByTheBitmap}
use Rattle.bitmap_alloc.proofs.First.{FirstIs, first_is}

-- a fetch records nothing, and goes on with the bytes that were fetched
fetch_then : {A : Type 0} (answer : Oracle) (n b : ℕ) (k : List ℕ → P A) (Q : List (ℕ × List ℕ) → A → Type 0)
    → ((m : ℕ) → Q (recorded answer m (k (fetched answer n b))) (outcome answer m (k (fetched answer n b))))
    → Q (recorded answer n (bind (fetch b) k)) (outcome answer n (bind (fetch b) k))
fetch_then answer n b k Q =
    elim (answer n (Get b)) as
    (λ o. ((m : ℕ) → Q (recorded answer m (k (unwrap_or o (answer (n + 1) (Read b))))) (outcome answer m (k (unwrap_or o (answer (n + 1) (Read b))))))
    → Q (recorded answer (n + 1) (bind (read_unless b o) k)) (outcome answer (n + 1) (bind (read_unless b o) k)))
    [ Some bytes ↦ λ each. each (n + 1) | None ↦ λ each. each (n + 1 + 1) ]

zeros_then : (answer : Oracle) (n b : ℕ) → let p : P (Option ℕ) = zero_block b in (recorded answer n p ≡ (b, zeros) ∷ []) × (outcome answer n p ≡ Some b)
zeros_then answer n b = fetch_then answer n b (give_zeros b) (λ changes a. (changes ≡ (b, zeros) ∷ []) × (a ≡ Some b)) (λ m. (refl, refl))

is_set : (v : Bool) → not v ≡ false → v ≡ true
is_set true e = refl
is_set false e = cc

is_clear : (v : Bool) → not v ≡ true → v ≡ false
is_clear true e = cc
is_clear false e = refl

first_then : (answer : Oracle) (m at size : ℕ) (bitmap : List ℕ)
    → let p : P (Option ℕ) = take_first at size bitmap in TakesFirstClear at size bitmap (recorded answer m p) (outcome answer m p)
unfolding first_clear_below
first_then answer m at size bitmap = go (first_clear_below size bitmap) (first_is (λ b. not (bit_of bitmap b)) size)
  where
    go : (o : Option ℕ) → FirstIs (λ b. not (bit_of bitmap b)) size o
        → let p : P (Option ℕ) = Do (Put at (marked_by bitmap o)) unmarked (λ _. zero_found o) in TakesFirstClear at size bitmap (recorded answer m p) (outcome answer m p)
    go None f = (λ k h. is_set (bit_of bitmap k) (f k h), refl)
    go (Some b) f =
        let z = zeros_then answer (m + 1) b in
        rw z.1 (f.0, is_clear (bit_of bitmap b) f.1, λ k h. is_set (bit_of bitmap k) (f.2 k h), rw z.0 refl)

pub takes_first : TakesTheFirst
takes_first answer at size = fetch_then answer 0 at (take_first at size) (TakesFirstClear at size (fetched answer 0 at)) (λ m. first_then answer m at size (fetched answer 0 at))

pub frees_bitmap : FreesByTheBitmap
frees_bitmap answer at b = fetch_then answer 0 at (clear_bit at b) (λ changes a. changes ≡ (at, without_bit b (fetched answer 0 at)) ∷ []) (λ m. refl)

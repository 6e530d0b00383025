-- A list of which at most one passes a test, and the place of that one.
use Rattle.buffer_cache.proofs.Vocabulary.{◌≡◌, ℕ, zero, suc, ◌+◌, ◌<◌, ◌≤◌, List, [], ◌∷◌, length, Bool, true, false, cond, not, ◌∙◌, ap, arith, Some, None, nat_lt, position, position_or_len, nat_tests, slice_get_within, same_Some, none-some, count_of}
use Rattle.std.specs.List.{slice_get}
use Rattle.buffer_cache.proofs.Firsts.{pick}

-- what passes is counted
pub counted_at : {X : Type 0} (p : X → Bool) (xs : List X) (i : ℕ) (x : X) → slice_get xs i ≡ Some x → p x ≡ true → 1 ≤ count_of p xs
counted_at p [] i x at is = absurd (none-some x at)
counted_at {X} p (y ∷ xs) zero x at is = let here : p y ≡ true = ap p (same_Some y x at) ∙ is in by_test (p y) here
  where
    by_test : (t : Bool) → t ≡ true → 1 ≤ cond t 1 0 + count_of p xs
    by_test true e = omega arith
    by_test false e = absurd (cc e)
counted_at p (y ∷ xs) (suc i) x at is = let more = counted_at p xs i x at is in omega (arith, more)

-- and it is the first
once_here : {X : Type 0} (p : X → Bool) (xs : List X) (i : ℕ) (x : X) → count_of p xs ≤ 1 → slice_get xs i ≡ Some x → p x ≡ true → position_or_len p xs ≡ i
once_here p [] i x once at is = absurd (none-some x at)
once_here {X} p (y ∷ xs) zero x once at is = let here : p y ≡ true = ap p (same_Some y x at) ∙ is in ap (λ (t : Bool). cond (not t) (1 + position_or_len p xs) 0) here
once_here {X} p (y ∷ xs) (suc i) x once at is =
    let more = counted_at p xs i x at is in
    pick (p y) (λ t. cond t 1 0 + count_of p xs ≤ 1 → cond (not t) (1 + position_or_len p xs) 0 ≡ suc i)
    (λ _ two. absurd (omega (arith, two, more)))
    (λ _ one. let place = once_here p xs i x (omega (arith, one)) at is in omega (arith, place))
    once

pub once_at : {X : Type 0} (p : X → Bool) (xs : List X) (i : ℕ) (x : X) → count_of p xs ≤ 1 → slice_get xs i ≡ Some x → p x ≡ true → position p xs ≡ Some i
once_at p xs i x once at is = tests (position_or_len p xs) (length xs) (once_here p xs i x once at is) (slice_get_within xs i x at)
  where
    tests : (a n : ℕ) → a ≡ i → i < n → cond (nat_lt a n) (Some a) None ≡ Some i
    tests a n e lt = grind (arith, nat_tests)

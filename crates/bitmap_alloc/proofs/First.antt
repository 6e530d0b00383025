-- The first number below a limit that passes a test.
use Rattle.bitmap_alloc.proofs.Vocabulary.{◌≡◌, ◌≢◌, ℕ, zero, suc, ◌<◌, Bool, true, false, Option, Some, None, if◌then◌else◌, refl, arith, ⊎_elim, cases_eq, else_this, first_below}

-- none below the limit passes
pub none_below : (p : ℕ → Bool) (n : ℕ) → ((k : ℕ) → k < n → p k ≡ false) → first_below p n ≡ None
none_below p zero fails = refl
none_below p (suc n) fails = rw (none_below p n (λ k h. fails k (omega arith)), fails n (omega arith)) refl

-- this one passes, and none below it
pub this_below : (p : ℕ → Bool) (n k : ℕ) → k < n → p k ≡ true → ((j : ℕ) → j < k → p j ≡ false) → first_below p n ≡ Some k
this_below p zero k h passes fails = absurd (omega arith)
this_below p (suc n) k h passes fails =
    ⊎_elim
    (λ (e : n ≡ k). rw (none_below p n (λ j l. fails j (omega arith)), e, passes) refl)
    (λ (d : n ≢ k). rw (this_below p n k (omega arith) passes fails) refl)
    (cases_eq n k)

-- what the first one is: none below the limit passes, or this one and none below it
abbrev pub FirstIs : (ℕ → Bool) → ℕ → Option ℕ → Type 0
FirstIs p n None = (k : ℕ) → k < n → p k ≡ false
FirstIs p n (Some b) = (b < n) × (p b ≡ true) × ((k : ℕ) → k < b → p k ≡ false)

step_first : (p : ℕ → Bool) (n : ℕ) (o : Option ℕ) → FirstIs p n o → FirstIs p (suc n) (else_this p n o)
step_first p n (Some b) f = (omega (arith, f.0), f.1, f.2)
step_first p n None f = at (p n) refl
  where
    at : (v : Bool) → p n ≡ v → FirstIs p (suc n) (if v then Some n else None)
    at true e = (omega arith, e, f)
    at false e = λ k h. ⊎_elim (λ (q : k ≡ n). rw q e) (λ (d : k ≢ n). f k (omega arith)) (cases_eq k n)

pub first_is : (p : ℕ → Bool) (n : ℕ) → FirstIs p n (first_below p n)
first_is p zero = λ k h. absurd (omega arith)
first_is p (suc n) = step_first p n (first_below p n) (first_is p n)

-- Maps, and tests on all harts.
use Rattle.plain_tree.proofs.Vocabulary.{◌≡◌, ◌≢◌, ℕ, zero, suc, ◌<◌, Bool, true, false, ◌&&◌, ◌||◌, ◌==◌, ◌⊎◌, inl, inr, refl, sym, subst, arith, nat_tests, put, any_below}

pub eq_self : (k : ℕ) → (k == k) ≡ true
eq_self k = grind (arith, nat_tests)

pub eq_is : (n k : ℕ) → (n == k) ≡ true → n ≡ k
eq_is n k h = grind (arith, nat_tests)

pub eq_not : (n k : ℕ) → n ≢ k → (n == k) ≡ false
eq_not n k h = grind (arith, nat_tests)

pub eq_isnt : (n k : ℕ) → (n == k) ≡ false → n ≢ k
eq_isnt n k h = grind (arith, nat_tests)

-- a test is one of two
pub either : (b : Bool) → (b ≡ true) ⊎ (b ≡ false)
either true = inl refl
either false = inr refl

pub same_or : (n k : ℕ) → (n ≡ k) ⊎ (n ≢ k)
same_or n k = go (n == k) refl
  where
    go : (b : Bool) → (n == k) ≡ b → (n ≡ k) ⊎ (n ≢ k)
    go true e = inl (eq_is n k e)
    go false e = inr (eq_isnt n k e)

pub put_same : {A : Type 0} (f : ℕ → A) (k : ℕ) (v : A) → put f k v k ≡ v
unfolding put
put_same f k v = rw (eq_self k) refl

pub put_other : {A : Type 0} (f : ℕ → A) (k : ℕ) (v : A) (n : ℕ) → n ≢ k → put f k v n ≡ f n
unfolding put
put_other f k v n ne = rw (eq_not n k ne) refl

-- two maps that agree at the key and elsewhere
pub put_is : {A : Type 0} (f : ℕ → A) (k : ℕ) (v : A) (n : ℕ) → ((n ≡ k) × (put f k v n ≡ v)) ⊎ ((n ≢ k) × (put f k v n ≡ f n))
put_is {A} f k v n = go (same_or n k)
  where
    go : (n ≡ k) ⊎ (n ≢ k) → ((n ≡ k) × (put f k v n ≡ v)) ⊎ ((n ≢ k) × (put f k v n ≡ f n))
    go (inl e) = inl (e, subst (λ (x : ℕ). put f k v x ≡ v) (sym e) (put_same f k v))
    go (inr e) = inr (e, put_other f k v n e)

pub and_true : (a b : Bool) → (a && b) ≡ true → (a ≡ true) × (b ≡ true)
and_true a b h = grind arith

pub or_none : (a b : Bool) → (a || b) ≡ false → (a ≡ false) × (b ≡ false)
or_none a b e = grind arith

pub or_left : (a b : Bool) → a ≡ true → (a || b) ≡ true
or_left a b e = grind arith

pub or_right : (a b : Bool) → b ≡ true → (a || b) ≡ true
or_right a b e = grind arith

pub any_none : (n : ℕ) (p : ℕ → Bool) → any_below n p ≡ false → (h : ℕ) → h < n → p h ≡ false
unfolding any_below
any_none zero p all h lt = absurd (omega arith)
any_none (suc n) p all h lt =
    let two = or_none (p n) (any_below n p) all in
    elim (same_or h n) [
      | inl e ↦ subst (λ (x : ℕ). p x ≡ false) (sym e) two.0
      | inr ne ↦ any_none n p two.1 h (omega arith)
    ]

pub none_any : (n : ℕ) (p : ℕ → Bool) → ((h : ℕ) → h < n → p h ≡ false) → any_below n p ≡ false
unfolding any_below
none_any zero p all = refl
none_any (suc n) p all = rw (all n (omega arith), none_any n p (λ h lt. all h (omega arith))) refl

pub any_same : (n : ℕ) (p q : ℕ → Bool) → ((h : ℕ) → h < n → p h ≡ q h) → any_below n p ≡ any_below n q
unfolding any_below
any_same zero p q all = refl
any_same (suc n) p q all = rw (all n (omega arith), any_same n p q (λ h lt. all h (omega arith))) refl

pub any_at : (n : ℕ) (p : ℕ → Bool) (h : ℕ) → h < n → p h ≡ true → any_below n p ≡ true
unfolding any_below
any_at zero p h lt is = absurd (omega arith)
any_at (suc n) p h lt is =
    elim (same_or h n) [
      | inl e ↦ or_left (p n) (any_below n p) (subst (λ (x : ℕ). p x ≡ true) e is)
      | inr ne ↦ or_right (p n) (any_below n p) (any_at n p h (omega arith) is)
    ]

-- What the code's searches find.
use Rattle.plain_tree.proofs.Vocabulary.{◌≡◌, ℕ, zero, suc, ◌+◌, ◌-◌, ◌<◌, ◌≤◌, Bool, true, false, List, length, drop, ◌||◌, nat_lt, inl, inr, add-one, refl, sym, ◌∙◌, ap, arith, Option, Some, drop_all, cases_eq, nat_tests, Slot, any_below, any_used, lowest_from}

pub few_unused : (ss : List (Option Slot)) → length ss ≤ 2 → any_used (drop 2 ss) ≡ false
unfolding any_used
few_unused ss h = rw (drop_all 2 ss h) refl

pub few_not : (ss : List (Option Slot)) → length ss ≤ 2 → nat_lt 2 (length ss) ≡ false
few_not ss h = grind (arith, nat_tests)

lowest_more : (more i : ℕ) (used : ℕ → Option ℕ) (id : ℕ) → Some id ≡ used i → lowest_from (suc more) i used ≡ lowest_from more (i + 1) used
unfolding lowest_from
lowest_more more i used id e = rw (← e, lowest_from) refl

pub lowest_next : (n i : ℕ) (used : ℕ → Option ℕ) (id : ℕ) → i < n → Some id ≡ used i → lowest_from (n - (i + 1)) (i + 1) used ≡ lowest_from (n - i) i used
lowest_next n i used id lt e =
    let more : n - i ≡ suc (n - (i + 1)) = omega arith in
    rw more (sym (lowest_more (n - (i + 1)) i used id e))

below_here : (n : ℕ) (p : ℕ → Bool) → p n ≡ true → any_below (suc n) p ≡ true
unfolding any_below
below_here n p h = rw h refl

or_true : (b : Bool) → (b || true) ≡ true
or_true true = refl
or_true false = refl

below_there : (n : ℕ) (p : ℕ → Bool) → any_below n p ≡ true → any_below (suc n) p ≡ true
unfolding any_below
below_there n p h = rw h (or_true (p n))

pub below_true : (n i : ℕ) (p : ℕ → Bool) → i < n → p i ≡ true → any_below n p ≡ true
below_true zero i p lt h = absurd (omega arith)
below_true (suc n) i p lt h = elim (cases_eq i n) [
  | inl e ↦ below_here n p (sym (ap p e) ∙ h)
  | inr ne ↦ below_there n p (below_true n i p (omega arith) h)
]

below_not : (n : ℕ) (p : ℕ → Bool) → any_below n p ≡ false → p n ≡ false → any_below (suc n) p ≡ false
unfolding any_below
below_not n p h e = rw (e, h) refl

pub below_more : (n : ℕ) (p : ℕ → Bool) → any_below n p ≡ false → p n ≡ false → any_below (n + 1) p ≡ false
below_more n p h e = rw (add-one n) (below_not n p h e)

pub below_all : (n i : ℕ) (p : ℕ → Bool) → n ≤ i → i ≤ n → any_below i p ≡ false → any_below n p ≡ false
below_all n i p le ge h =
    let same : n ≡ i = omega arith in
    rw same h

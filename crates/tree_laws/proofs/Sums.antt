-- Sums over a range of numbers, and how often slots name a node.
use Rattle.tree_laws.proofs.Vocabulary.{◌≡◌, ◌≢◌, ℕ, zero, suc, ◌+◌, ◌<◌, ◌≤◌, Bool, true, false, ◌==◌, inl, inr, refl, sym, subst, arith, List, [], ◌∷◌, Option, Some, None, Slot, Name, same_name, first_slot, first_free, cleared, any_used, is_used, sum_below, one_if, count_in}
use Rattle.tree_laws.proofs.Maps.{either, same_or, or_none}

pub sum_same : (n : ℕ) (f g : ℕ → ℕ) → ((k : ℕ) → k < n → g k ≡ f k) → sum_below n g ≡ sum_below n f
unfolding sum_below
sum_same zero f g same = refl
sum_same (suc n) f g same = rw (same n (omega arith), sum_same n f g (λ k l. same k (omega arith))) refl

-- one term changes
pub sum_changed : (n d : ℕ) (f g : ℕ → ℕ) → d < n → ((k : ℕ) → k ≢ d → g k ≡ f k) → sum_below n g + f d ≡ sum_below n f + g d
unfolding sum_below
sum_changed zero d f g lt same = absurd (omega arith)
sum_changed (suc n) d f g lt same = elim (same_or d n) [
  | inl e ↦
      let rest : sum_below n g ≡ sum_below n f = sum_same n f g (λ k l. same k (λ q. absurd (omega (arith, q, e, l)))) in
      subst (λ (z : ℕ). (g n + sum_below n g) + f z ≡ (f n + sum_below n f) + g z) (sym e) (omega (arith, rest))
  | inr ne ↦
      let ih : sum_below n g + f d ≡ sum_below n f + g d = sum_changed n d f g (omega arith) same in
      let top : g n ≡ f n = same n (λ q. ne (sym q)) in
      omega (arith, ih, top)
]

pub sum_part : (n d : ℕ) (f : ℕ → ℕ) → d < n → f d ≤ sum_below n f
unfolding sum_below
sum_part zero d f lt = absurd (omega arith)
sum_part (suc n) d f lt = elim (same_or d n) [
  | inl e ↦ subst (λ (z : ℕ). f z ≤ f n + sum_below n f) (sym e) (omega arith)
  | inr ne ↦ let ih : f d ≤ sum_below n f = sum_part n d f (omega arith) in omega (arith, ih)
]

-- two terms
pub sum_two : (n c d : ℕ) (f : ℕ → ℕ) → c < n → d < n → c ≢ d → f c + f d ≤ sum_below n f
unfolding sum_below
sum_two zero c d f lc ld ne = absurd (omega arith)
sum_two (suc n) c d f lc ld ne = elim (same_or c n) [
  | inl e ↦ let p : f d ≤ sum_below n f = sum_part n d f (omega arith) in subst (λ (z : ℕ). f z + f d ≤ f n + sum_below n f) (sym e) (omega (arith, p))
  | inr cn ↦ elim (same_or d n) [
    | inl e ↦ let p : f c ≤ sum_below n f = sum_part n c f (omega arith) in subst (λ (z : ℕ). f c + f z ≤ f n + sum_below n f) (sym e) (omega (arith, p))
    | inr dn ↦ let ih : f c + f d ≤ sum_below n f = sum_two n c d f (omega arith) (omega arith) ne in omega (arith, ih)
  ]
]

pub sum_none : (n : ℕ) (f : ℕ → ℕ) → ((k : ℕ) → k < n → f k ≡ 0) → sum_below n f ≡ 0
unfolding sum_below
sum_none zero f all = refl
sum_none (suc n) f all =
    let top : f n ≡ 0 = all n (omega arith) in
    let ih : sum_below n f ≡ 0 = sum_none n f (λ k l. all k (omega arith)) in
    omega (arith, top, ih)

pub one_yes : (b : Bool) → b ≡ true → one_if b ≡ 1
unfolding one_if
one_yes true h = refl
one_yes false h = absurd cc

pub one_no : (b : Bool) → b ≡ false → one_if b ≡ 0
unfolding one_if
one_no true h = absurd cc
one_no false h = refl

pub one_none : (b : Bool) → one_if b ≡ 0 → b ≡ false
unfolding one_if
one_none true h = absurd (omega (arith, h))
one_none false h = refl

-- Slots.

pub count_nil : (n : ℕ) → count_in [] n ≡ 0
unfolding count_in
count_nil n = refl

pub count_entered : (ss : List (Option Slot)) (s : Slot) (n : ℕ) → count_in (first_free ss s) n ≡ count_in ss n + one_if (s.number == n)
unfolding count_in first_free
count_entered [] s n = omega arith
count_entered (None ∷ ss) s n = omega arith
count_entered (Some s' ∷ ss) s n = omega (arith, count_entered ss s n)

found_here : (s : Slot) (ss : List (Option Slot)) (e : Name) (k : ℕ) → same_name s.name e ≡ true → first_slot (Some s ∷ ss) e ≡ Some k → s.number ≡ k
unfolding first_slot
found_here s ss e k is h = let g : Some s.number ≡ Some k = rw is at h in cc

found_later : (s : Slot) (ss : List (Option Slot)) (e : Name) (k : ℕ) → same_name s.name e ≡ false → first_slot (Some s ∷ ss) e ≡ Some k → first_slot ss e ≡ Some k
unfolding first_slot
found_later s ss e k is h = rw is at h

pub count_cleared : (ss : List (Option Slot)) (e : Name) (k n : ℕ) → first_slot ss e ≡ Some k → count_in (cleared ss e) n + one_if (k == n) ≡ count_in ss n
unfolding count_in first_slot cleared
count_cleared [] e k n h = absurd cc
count_cleared (None ∷ ss) e k n h = omega (arith, count_cleared ss e k n h)
count_cleared (Some s ∷ ss) e k n h =
    let ih = count_cleared ss e k n in
    elim (either (same_name s.name e)) [
      | inl y ↦ let same : s.number ≡ k = found_here s ss e k y h in rw (y, same) (omega arith)
      | inr y ↦ rw y (omega (arith, ih (found_later s ss e k y h)))
    ]

-- unused slots name nothing
pub count_unused : (ss : List (Option Slot)) (n : ℕ) → any_used ss ≡ false → count_in ss n ≡ 0
unfolding count_in any_used
count_unused [] n h = refl
count_unused (None ∷ ss) n h = omega (arith, count_unused ss n (or_none (is_used None) (any_used ss) h).1)
count_unused (Some s ∷ ss) n h = absurd (let b : true ≡ false = (or_none (is_used (Some s)) (any_used ss) h).0 in cc)

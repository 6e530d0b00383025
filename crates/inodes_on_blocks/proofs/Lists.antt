-- How often a number occurs in what is gathered from inodes, as a sum over them.
use Rattle.inodes_on_blocks.proofs.Vocabulary.{◌≡◌, ◌≢◌, ℕ, zero, suc, ◌+◌, ◌≤◌, Bool, true, false, eqb, cond, inl, inr, refl, sym, ◌∙◌, ap, arith, List, [], ◌∷◌, filter, sum_by-cons, gathered, times, sum_below, one_if, either, eq_not, same_or}
pub use Rattle.image_tree.proofs.Freed.{filter_keeps, filter_drops}
pub use Rattle.image_tree.proofs.Unnamed.{times_more}

-- how much one number adds to how often i occurs in a list
abbrev hits : ℕ → ℕ → ℕ
hits i x = cond (eqb x i) 1 0

pub times_nil : (i : ℕ) → times i [] ≡ 0
times_nil i = refl

pub times_cons : (i x : ℕ) (xs : List ℕ) → times i (x ∷ xs) ≡ one_if (eqb x i) + times i xs
unfolding one_if
times_cons i x xs = elim (either (eqb x i)) [
  | inl y ↦ sum_by-cons (hits i) x xs ∙ (rw y refl)
  | inr y ↦ sum_by-cons (hits i) x xs ∙ (rw y refl)
]

pub no_hit : (x i : ℕ) → x ≢ i → one_if (eqb x i) ≡ 0
unfolding one_if
no_hit x i ne = rw (eq_not x i ne) refl

pub times_start : (i : ℕ) (f : ℕ → List ℕ) → times i (gathered f 0) ≡ 0
unfolding gathered
times_start i f = refl

-- ---- what is gathered

-- a sum over inodes is how often a number is gathered from them
pub sum_gathered : (f : ℕ → List ℕ) (g : ℕ → ℕ) (i n : ℕ) → g 0 ≡ 0 → ((k : ℕ) → 1 ≤ k → k ≤ n → g k ≡ times i (f k)) → sum_below (suc n) g ≡ times i (gathered f n)
unfolding sum_below
sum_gathered f g i zero none same = omega (arith, none, times_start i f)
sum_gathered f g i (suc n) none same =
    let ih : g n + sum_below n g ≡ times i (gathered f n) = sum_gathered f g i n none (λ k low high. same k low (omega arith)) in
    omega (arith, ih, same (suc n) (omega arith) (omega arith), times_more i f n)

pub gathered_same : (f g : ℕ → List ℕ) (i n : ℕ) → ((k : ℕ) → times i (f k) ≡ times i (g k)) → times i (gathered f n) ≡ times i (gathered g n)
gathered_same f g i zero same = omega (arith, times_start i f, times_start i g)
gathered_same f g i (suc n) same = omega (arith, gathered_same f g i n same, same (suc n), times_more i f n, times_more i g n)

pub gathered_le : (f g : ℕ → List ℕ) (i n : ℕ) → ((k : ℕ) → times i (f k) ≤ times i (g k)) → times i (gathered f n) ≤ times i (gathered g n)
gathered_le f g i zero less = omega (arith, times_start i f, times_start i g)
gathered_le f g i (suc n) less = omega (arith, gathered_le f g i n less, less (suc n), times_more i f n, times_more i g n)

-- a number that none of them gives
pub gathered_none : (f : ℕ → List ℕ) (i n : ℕ) → ((k : ℕ) → times i (f k) ≡ 0) → times i (gathered f n) ≡ 0
gathered_none f i zero none = times_start i f
gathered_none f i (suc n) none = omega (arith, gathered_none f i n none, none (suc n), times_more i f n)

gathered_before : (f : ℕ → List ℕ) (i n : ℕ) → ((k : ℕ) → k ≤ n → times i (f k) ≡ 0) → times i (gathered f n) ≡ 0
gathered_before f i zero none = times_start i f
gathered_before f i (suc n) none = omega (arith, gathered_before f i n (λ k l. none k (omega arith)), none (suc n) (omega arith), times_more i f n)

-- a number that only one of them gives
pub gathered_only : (f : ℕ → List ℕ) (i n k : ℕ) → 1 ≤ k → k ≤ n → ((j : ℕ) → j ≢ k → times i (f j) ≡ 0) → times i (gathered f n) ≡ times i (f k)
gathered_only f i zero k low high none = absurd (omega arith)
gathered_only f i (suc n) k low high none = elim (same_or k (suc n)) [
  | inl e ↦
      let before : times i (gathered f n) ≡ 0 = gathered_before f i n (λ j l. none j (λ q. absurd (omega (arith, q, e, l)))) in
      let here : times i (f k) ≡ times i (f (suc n)) = ap (λ (j : ℕ). times i (f j)) e in
      omega (arith, before, here, times_more i f n)
  | inr ne ↦ omega (arith, gathered_only f i n k low (omega arith) none, none (suc n) (λ q. ne (sym q)), times_more i f n)
]

-- ---- what a test leaves of a list

pub times_filtered : (p : ℕ → Bool) (i : ℕ) (xs : List ℕ) → p i ≡ true → times i (filter p xs) ≡ times i xs
times_filtered p i [] h = refl
times_filtered p i (x ∷ xs) h =
    let ih = times_filtered p i xs h in
    elim (either (p x)) [
      | inl y ↦ ap (times i) (filter_keeps p x xs y) ∙ omega (arith, ih, times_cons i x (filter p xs), times_cons i x xs)
      | inr y ↦
          let other : one_if (eqb x i) ≡ 0 = no_hit x i (λ e. absurd (let q : p x ≡ p i = ap p e in cc (q, y, h))) in
          ap (times i) (filter_drops p x xs y) ∙ omega (arith, ih, other, times_cons i x xs)
    ]

pub times_dropped : (p : ℕ → Bool) (i : ℕ) (xs : List ℕ) → p i ≡ false → times i (filter p xs) ≡ 0
times_dropped p i [] h = refl
times_dropped p i (x ∷ xs) h =
    let ih = times_dropped p i xs h in
    elim (either (p x)) [
      | inr y ↦ ap (times i) (filter_drops p x xs y) ∙ ih
      | inl y ↦
          let other : one_if (eqb x i) ≡ 0 = no_hit x i (λ e. absurd (let q : p x ≡ p i = ap p e in cc (q, y, h))) in
          ap (times i) (filter_keeps p x xs y) ∙ omega (arith, ih, other, times_cons i x (filter p xs))
    ]

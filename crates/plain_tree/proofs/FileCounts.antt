-- How many ids a list of open files can have.
use Rattle.plain_tree.proofs.Vocabulary.{◌≡◌, ◌≢◌, ℕ, zero, suc, ◌+◌, ◌<◌, ◌≤◌, ◌==◌, nat_lt, true, false, cond, List, [], ◌∷◌, length, Option, Some, None, refl, sym, ◌∙◌, ap, arith, inl, inr, cases_Bool, nat_tests, OpenFile, OpenFileEntry, file_in}

abbrev one_for : Option OpenFile → ℕ
one_for None = 0
one_for (Some f) = 1

-- how many ids below n the entries have
found : ℕ → List OpenFileEntry → ℕ
found zero es = 0
found (suc n) es = one_for (file_in es n) + found n es

-- 1 for an entry whose id is below n
abbrev below : OpenFileEntry → ℕ → ℕ
below e n = cond (nat_lt e.id n) 1 0

below_more : (e : OpenFileEntry) (n : ℕ) → below e n ≤ below e (suc n)
below_more e n = elim (cases_Bool (nat_lt e.id n)) [
  | inl y ↦
      let more : nat_lt e.id (suc n) ≡ true = grind (arith, nat_tests) in
      rw (y, more) (omega arith)
  | inr y ↦ rw y (omega arith)
]

below_own : (e : OpenFileEntry) (n : ℕ) → (e.id == n) ≡ true → (below e n ≡ 0) × (below e (suc n) ≡ 1)
below_own e n own =
    let not : nat_lt e.id n ≡ false = grind (arith, nat_tests) in
    let yes : nat_lt e.id (suc n) ≡ true = grind (arith, nat_tests) in
    (rw not refl, rw yes refl)

one_most : (o : Option OpenFile) → one_for o ≤ 1
one_most None = omega arith
one_most (Some f) = omega arith

own_file : (e : OpenFileEntry) (es : List OpenFileEntry) (n : ℕ) → (e.id == n) ≡ true → file_in (e ∷ es) n ≡ Some e.file
unfolding file_in
own_file e es n own = rw own refl

other_file : (e : OpenFileEntry) (es : List OpenFileEntry) (n : ℕ) → (e.id == n) ≡ false → file_in (e ∷ es) n ≡ file_in es n
unfolding file_in
other_file e es n other = rw other refl

no_file : (n : ℕ) → file_in [] n ≡ None
unfolding file_in
no_file n = refl

-- an entry adds one at most
found_with : (e : OpenFileEntry) (es : List OpenFileEntry) (n : ℕ) → found n (e ∷ es) ≤ found n es + below e n
unfolding found
found_with e es zero = omega arith
found_with e es (suc n) = elim (cases_Bool (e.id == n)) [
  | inl own ↦
      let b = below_own e n own in
      omega (arith, found_with e es n, b.0, b.1, one_most (file_in (e ∷ es) n))
  | inr other ↦
      let same : one_for (file_in (e ∷ es) n) ≡ one_for (file_in es n) = ap one_for (other_file e es n other) in
      omega (arith, found_with e es n, same, below_more e n)
]

found_none : (n : ℕ) → found n [] ≡ 0
unfolding found
found_none zero = refl
found_none (suc n) =
    let none : one_for (file_in [] n) ≡ 0 = ap one_for (no_file n) in
    omega (arith, none, found_none n)

below_most : (e : OpenFileEntry) (n : ℕ) → below e n ≤ 1
below_most e n = elim (cases_Bool (nat_lt e.id n)) [
  | inl y ↦ rw y (omega arith)
  | inr y ↦ rw y (omega arith)
]

found_few : (es : List OpenFileEntry) (n : ℕ) → found n es ≤ length es
found_few [] n = omega (arith, found_none n)
found_few (e ∷ es) n = omega (arith, found_with e es n, below_most e n, found_few es n)

one_there : (o : Option OpenFile) → o ≢ None → one_for o ≡ 1
one_there None h = absurd (h refl)
one_there (Some f) h = refl

all_found : (es : List OpenFileEntry) (n : ℕ) → ((j : ℕ) → j < n → file_in es j ≢ None) → n ≤ found n es
unfolding found
all_found es zero h = omega arith
all_found es (suc n) h =
    let one = one_there (file_in es n) (h n (omega arith)) in
    let rest = all_found es n (λ j lt. h j (omega arith)) in
    omega (arith, one, rest)

-- as many ids as there are entries, at most
pub ids_few : (es : List OpenFileEntry) (n : ℕ) → ((j : ℕ) → j < n → file_in es j ≢ None) → n ≤ length es
ids_few es n h = omega (arith, all_found es n h, found_few es n)

-- if all ids below the number of entries are used, that number isn't
pub last_unused : (es : List OpenFileEntry) → ((j : ℕ) → j < length es → file_in es j ≢ None) → file_in es (length es) ≡ None
last_unused es h = go (file_in es (length es)) refl
  where
    up_to : (f : OpenFile) → file_in es (length es) ≡ Some f → (j : ℕ) → j < suc (length es) → file_in es j ≢ None
    up_to f is j lt none = elim (cases_Bool (j == length es)) [
      | inl y ↦
          let same : j ≡ length es = grind (arith, nat_tests) in
          let bad : Some f ≡ None = sym is ∙ (ap (λ k. file_in es k) (sym same) ∙ none) in
          absurd cc
      | inr n ↦
          let low : j < length es = grind (arith, nat_tests) in
          absurd (h j low none)
    ]

    go : (o : Option OpenFile) → file_in es (length es) ≡ o → file_in es (length es) ≡ None
    go None is = is
    go (Some f) is = absurd (let bad = ids_few es (suc (length es)) (up_to f is) in omega arith)

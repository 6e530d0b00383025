-- How many places are in use: as many as inodes are referred to.
use Rattle.inodes_on_blocks.proofs.Vocabulary.{◌≡◌, ◌≢◌, inl, inr, ℕ, zero, suc, ◌+◌, ◌<◌, ◌≤◌, ◌==◌, nat_lt, Bool, true, false, if◌then◌else◌, List, [], ◌∷◌, length, Option, Some, None, refl, sym, ◌∙◌, ap, subst, arith, slice_get, position, is_some, nat_tests, same_Some, none-some, sum_below, one_if, eq_self, eq_is, eq_not, either, same_or, sum_same, sum_changed, sum_none, one_yes, one_no, place_of, references_in, references_at, is_unused, found, placed, none_passes, position_none, free}
use Rattle.fs_machine.specs.declared.entries.Entry.{Entry}
use Rattle.fs_machine.specs.Soundness.{IsOnce}

-- the number of references to an inode, over all places
standing : ℕ → List Entry → ℕ
standing i [] = 0
standing i (e ∷ es) = (if e.number == i then e.references else 0) + standing i es

used : List Entry → ℕ
used [] = 0
used (e ∷ es) = one_if (nat_lt 0 e.references) + used es

once_tail : (e : Entry) (es : List Entry) → IsOnce (e ∷ es) → IsOnce es
unfolding IsOnce
once_tail e es once j k x y ex ey lx ly n = let q : suc j ≡ suc k = once (suc j) (suc k) x y ex ey lx ly n in omega (arith, q)

-- an inode that has no place
standing_none : (i : ℕ) (es : List Entry) → ((k : ℕ) (e : Entry) → slice_get es k ≡ Some e → 0 < e.references → e.number ≢ i) → standing i es ≡ 0
unfolding standing
standing_none i [] none = refl
standing_none i (e ∷ es) none =
    let rest : standing i es ≡ 0 = standing_none i es (λ k x at lt. none (suc k) x at lt) in
    elim (either (e.number == i)) [
      | inl y ↦ elim (same_or e.references 0) [
        | inl z ↦ rw (y, z, rest) refl
        | inr z ↦ absurd (none 0 e refl (omega (arith, z)) (eq_is e.number i y))
      ]
      | inr n ↦ rw (n, rest) refl
    ]

-- one that has place k
standing_at : (i : ℕ) (es : List Entry) (k : ℕ) (f : Entry) → IsOnce es → slice_get es k ≡ Some f → f.number ≡ i → 0 < f.references → standing i es ≡ f.references
unfolding standing IsOnce
standing_at i [] k f once there number lt = absurd (none-some f there)
standing_at i (e ∷ es) zero f once there number lt =
    let same : e ≡ f = same_Some e f there in
    let rest : standing i es ≡ 0 = standing_none i es (λ j x at l n. absurd (let q : suc j ≡ zero = once (suc j) zero x e at refl l (subst (λ (v : Entry). 0 < v.references) (sym same) lt) (n ∙ sym number ∙ ap (λ (v : Entry). v.number) (sym same)) in omega (arith, q))) in
    let y : (e.number == i) ≡ true = ap (λ (v : Entry). v.number == i) same ∙ ap (λ (z : ℕ). z == i) number ∙ eq_self i in
    let z : e.references ≡ f.references = ap (λ (v : Entry). v.references) same in
    rw (y, rest, z) (omega arith)
standing_at i (e ∷ es) (suc k) f once there number lt =
    let rest : standing i es ≡ f.references = standing_at i es k f (once_tail e es once) there number lt in
    elim (either (e.number == i)) [
      | inl y ↦ elim (same_or e.references 0) [
        | inl z ↦ rw (y, z, rest) (omega arith)
        | inr z ↦ absurd (let q : zero ≡ suc k = once zero (suc k) e f refl there (omega (arith, z)) lt (eq_is e.number i y ∙ sym number) in omega (arith, q))
      ]
      | inr n ↦ rw (n, rest) (omega arith)
    ]

standing_is : (i : ℕ) (es : List Entry) → IsOnce es → references_in es (place_of i es) ≡ standing i es
standing_is i es once = at (place_of i es) refl
  where
    at : (o : Option ℕ) → place_of i es ≡ o → references_in es o ≡ standing i es
    at None e = sym (standing_none i es (λ k x there lt number. none-some k (sym e ∙ placed i es k once (record { entry = x; there = there; number = number; referenced = lt }))))
    at (Some k) e = let f = found i es k e in ap references_at f.there ∙ sym (standing_at i es k f.entry once f.there f.number f.referenced)

-- as many inodes are referred to as places are used
used_is : (n : ℕ) (es : List Entry) → IsOnce es → ((k : ℕ) (e : Entry) → slice_get es k ≡ Some e → 0 < e.references → e.number < n) → sum_below n (λ i. one_if (nat_lt 0 (standing i es))) ≡ used es
unfolding standing used IsOnce
used_is n [] once below = sum_none n _ (λ k lt. one_no (nat_lt 0 0) refl)
used_is n (e ∷ es) once below =
    let ih : sum_below n (λ i. one_if (nat_lt 0 (standing i es))) ≡ used es = used_is n es (once_tail e es once) (λ k x at lt. below (suc k) x at lt) in
    elim (same_or e.references 0) [
      | inl z ↦
          let same : sum_below n (λ i. one_if (nat_lt 0 (standing i (e ∷ es)))) ≡ sum_below n (λ i. one_if (nat_lt 0 (standing i es))) = sum_same n (λ i. one_if (nat_lt 0 (standing i es))) (λ i. one_if (nat_lt 0 (standing i (e ∷ es)))) (λ i lt. ap (λ (x : ℕ). one_if (nat_lt 0 x)) (skipped i z)) in
          let none : one_if (nat_lt 0 e.references) ≡ 0 = one_no (nat_lt 0 e.references) (ap (nat_lt 0) z) in
          omega (arith, same, ih, none)
      | inr z ↦
          let lt : 0 < e.references = omega (arith, z) in
          let low : e.number < n = below zero e refl lt in
          let changed = sum_changed n e.number (λ i. one_if (nat_lt 0 (standing i es))) (λ i. one_if (nat_lt 0 (standing i (e ∷ es)))) low (λ i ne. ap (λ (x : ℕ). one_if (nat_lt 0 x)) (passed i ne)) in
          let before : one_if (nat_lt 0 (standing e.number es)) ≡ 0 = one_no (nat_lt 0 (standing e.number es)) (ap (nat_lt 0) (rest lt)) in
          let after : one_if (nat_lt 0 (standing e.number (e ∷ es))) ≡ 1 = one_yes (nat_lt 0 (standing e.number (e ∷ es))) (positive (standing e.number (e ∷ es)) (more lt)) in
          let one : one_if (nat_lt 0 e.references) ≡ 1 = one_yes (nat_lt 0 e.references) (positive e.references lt) in
          omega (arith, ih, changed, before, after, one)
    ]
  where
    positive : (a : ℕ) → 0 < a → nat_lt 0 a ≡ true
    positive a lt = grind (arith, nat_tests)

    skipped : (i : ℕ) → e.references ≡ 0 → standing i (e ∷ es) ≡ standing i es
    skipped i z = elim (either (e.number == i)) [ inl y ↦ rw (y, z) (omega arith) | inr n ↦ rw n (omega arith) ]

    passed : (i : ℕ) → i ≢ e.number → standing i (e ∷ es) ≡ standing i es
    passed i ne = rw (eq_not e.number i (λ q. ne (sym q))) (omega arith)

    rest : 0 < e.references → standing e.number es ≡ 0
    rest lt = standing_none e.number es (λ j x at l n. absurd (let q : suc j ≡ zero = once (suc j) zero x e at refl l lt n in omega (arith, q)))

    more : 0 < e.references → 0 < standing e.number (e ∷ es)
    more lt = rw (eq_self e.number) (omega arith)

-- a free place is left if not all are used
free_left : (es : List Entry) → used es < length es → (k : ℕ) × (e : Entry) × (slice_get es k ≡ Some e) × (e.references ≡ 0)
unfolding used
free_left [] lt = absurd (omega (arith, lt))
free_left (e ∷ es) lt = elim (same_or e.references 0) [
  | inl z ↦ (zero, e, refl, z)
  | inr z ↦
      let one : one_if (nat_lt 0 e.references) ≡ 1 = one_yes (nat_lt 0 e.references) (positive e.references (omega (arith, z))) in
      let r = free_left es (omega (arith, lt, one)) in
      (suc r.0, r.1, r.2, r.3)
]
  where
    positive : (a : ℕ) → 0 < a → nat_lt 0 a ≡ true
    positive a l = grind (arith, nat_tests)

at_most : (b : Bool) → one_if b ≤ 1
unfolding one_if
at_most true = omega arith
at_most false = omega arith

used_most : (es : List Entry) → used es ≤ length es
unfolding used
used_most [] = omega arith
used_most (y ∷ ys) = let a = used_most ys in let b : one_if (nat_lt 0 y.references) ≤ 1 = at_most (nat_lt 0 y.references) in omega (arith, a, b)

-- with a free place not all are used
not_all_used : (es : List Entry) (k : ℕ) (e : Entry) → slice_get es k ≡ Some e → e.references ≡ 0 → used es < length es
unfolding used
not_all_used [] k e there z = absurd (none-some e there)
not_all_used (x ∷ xs) zero e there z =
    let none : one_if (nat_lt 0 x.references) ≡ 0 = one_no (nat_lt 0 x.references) (ap (nat_lt 0) (ap (λ (v : Entry). v.references) (same_Some x e there) ∙ z)) in
    let all : used xs ≤ length xs = used_most xs in
    omega (arith, none, all)
not_all_used (x ∷ xs) (suc k) e there z =
    let rest = not_all_used xs k e there z in
    let b : one_if (nat_lt 0 x.references) ≤ 1 = at_most (nat_lt 0 x.references) in
    omega (arith, rest, b)

-- a free place is found while fewer inodes are referred to than there are places
pub room_is : (n : ℕ) (es : List Entry) (refs : ℕ → ℕ) → IsOnce es → ((k : ℕ) (e : Entry) → slice_get es k ≡ Some e → 0 < e.references → e.number < n) → ((i : ℕ) → refs i ≡ references_in es (place_of i es))
    → is_some (position is_unused es) ≡ nat_lt (sum_below n (λ i. one_if (nat_lt 0 (refs i)))) (length es)
room_is n es refs once below counts = by_place (position is_unused es) refl
  where
    total : sum_below n (λ i. one_if (nat_lt 0 (refs i))) ≡ used es
    total = sum_same n (λ i. one_if (nat_lt 0 (standing i es))) (λ i. one_if (nat_lt 0 (refs i))) (λ i lt. ap (λ (x : ℕ). one_if (nat_lt 0 x)) (counts i ∙ standing_is i es once)) ∙ used_is n es once below

    yes : (a b : ℕ) → a < b → nat_lt a b ≡ true
    yes a b lt = grind (arith, nat_tests)

    no : (a b : ℕ) → b ≤ a → nat_lt a b ≡ false
    no a b le = grind (arith, nat_tests)

    unused_is : (a : ℕ) → a ≡ 0 → (a == 0) ≡ true
    unused_is a z = grind (arith, nat_tests)

    by_place : (o : Option ℕ) → position is_unused es ≡ o → is_some o ≡ nat_lt (sum_below n (λ i. one_if (nat_lt 0 (refs i)))) (length es)
    by_place (Some k) e = let f = free es k e in sym (ap (λ (x : ℕ). nat_lt x (length es)) total ∙ yes (used es) (length es) (not_all_used es k f.entry f.there f.none))
    by_place None e = sym (ap (λ (x : ℕ). nat_lt x (length es)) total ∙ no (used es) (length es) (full (used es) (length es) (λ lt. absurd (let r = free_left es lt in let t : false ≡ true = sym (none_passes is_unused es r.0 r.1 (position_none is_unused es e) r.2) ∙ unused_is r.1.references r.3 in cc))))
      where
        less : (a b : ℕ) → nat_lt a b ≡ true → a < b
        less a b y = grind (arith, nat_tests)

        most : (a b : ℕ) → nat_lt a b ≡ false → b ≤ a
        most a b n = grind (arith, nat_tests)

        full : (a b : ℕ) → (a < b → b ≤ a) → b ≤ a
        full a b f = elim (either (nat_lt a b)) [ inl y ↦ f (less a b y) | inr n ↦ most a b n ]

-- Names as references: each is there once if all differ, in any order, and if neighbours differ in a sorted list.
use Rattle.image_tree.proofs.Vocabulary.{◌≡◌, ◌≢◌, ◌⊎◌, ◌∙◌, ap, sym, refl, inl, inr, ℕ, ◌+◌, ◌<◌, Bool, true, false, List, [], ◌∷◌, length, get_or, map, arith, cases_eq, get_or-map, length-map, IsPermutation, IsPermutation-sym, IsOnce}
use Rattle.std.proofs.Common.{Bor, Equal, Greater, IsSorted, Less, Ordering, bytes_eq, is_eq, is_lt, nat_cmp, swap}
use Rattle.std.proofs.lemmas.Cmp.{nat_list_cmp_total, on_total}
use Rattle.std.proofs.lemmas.List.Edits.{Swapped, length-swap, swapped_from_swap}
use Rattle.std.proofs.lemmas.List.Sorted.{IsPermutation-keeps, IsPermutation-map}
use Rattle.std.proofs.lemmas.Map.Keys.{Less-from_sorted, sorted_from_all_adjacent}
use Rattle.std.proofs.lemmas.Map.Text.{is_eq-slice_cmp}
use Rattle.std.proofs.lemmas.Slice.Eq.{bytes_eq-Decides}
use Rattle.std.specs.Cmp.Lexicographic.{slice_cmp}
use Rattle.std.specs.Ordering.{ordering_reverse}

abbrev pub Name : Type 0
Name = Bor (List ℕ)

abbrev pub texts : List Name → List (List ℕ)
texts names = map (λ n. n.now) names

-- the names at i and j differ
abbrev pub DifferAt : List Name → ℕ → ℕ → Type 0
DifferAt names i j = (d : Name) → bytes_eq (get_or names i d).now (get_or names j d).now ≡ false

other_text : (a b : List ℕ) → bytes_eq a b ≡ false → a ≢ b
other_text a b other e = let same = (bytes_eq-Decides a b).1 e in cc

tested : (a b : List ℕ) (t : Bool) → bytes_eq a b ≡ t → a ≢ b → t ≡ false
tested a b true e other = absurd (other ((bytes_eq-Decides a b).0 e))
tested a b false e other = refl

pub once_from_places : (names : List Name) → ((i j : ℕ) → i < j → j < length names → DifferAt names i j) → IsOnce (texts names)
once_from_places [] h = record { apart = λ i j d less within e. omega arith }
once_from_places (n ∷ ns) h = record {
  apart = λ i j d less within e.
      let all = n ∷ ns in
      let inside : j < length all = omega (arith, length-map all (λ (x : Name). x.now)) in
      other_text _ _ (h i j less inside n) (sym (get_or-map (λ x. x.now) all i n d (omega arith)) ∙ e ∙ get_or-map (λ x. x.now) all j n d inside);
}

pub differ_once : (names : List Name) (i j : ℕ) → IsOnce (texts names) → i < j → j < length names → DifferAt names i j
differ_once names i j once less within d =
    let inside : j < length (texts names) = omega (arith, length-map names (λ (x : Name). x.now)) in
    tested (get_or names i d).now (get_or names j d).now _ refl
    (λ e. once.apart i j [] less inside (get_or-map (λ x. x.now) names i d [] (omega arith) ∙ e ∙ sym (get_or-map (λ x. x.now) names j d [] within)))

-- ---- another order

one_place : (xs : List (List ℕ)) → IsOnce xs → (i j : ℕ) (d : List ℕ) → i < length xs → j < length xs → get_or xs i d ≡ get_or xs j d → i ≡ j
one_place xs once i j d p q e =
    let not_below : i < j → ⊥ = λ less. once.apart i j d less q e in
    let not_above : j < i → ⊥ = λ less. once.apart j i d less p (sym e) in
    omega arith

-- the place from which a swap of a and b took the element at m
abbrev From : ℕ → ℕ → ℕ → ℕ → Type 0
From a b m k = ((m ≡ a) × (k ≡ b)) ⊎ (((m ≡ b) × (k ≡ a)) ⊎ ((m ≢ a) × (m ≢ b) × (k ≡ m)))

origin : {X : Type 0} (f g : ℕ → X) (a b m : ℕ) → Swapped f g a b → (m ≡ a) ⊎ (m ≢ a) → (m ≡ b) ⊎ (m ≢ b) → (k : ℕ) × From a b m k × (g m ≡ f k)
origin f g a b m s (inl e) y = (b, inl (e, refl), ap g e ∙ s.0)
origin f g a b m s (inr n) (inl e) = (a, inr (inl (e, refl)), ap g e ∙ s.1)
origin f g a b m s (inr n) (inr o) = (m, inr (inr (n, o, refl)), s.2 m n o)

once_swapped : (xs : List (List ℕ)) (a b : ℕ) → a < length xs → b < length xs → IsOnce xs → IsOnce (swap xs a b)
once_swapped xs a b p q once = record {
  apart = λ i j d less within e.
      let len = length-swap xs a b in
      let s = swapped_from_swap xs (swap xs a b) a b d p q refl in
      let x = origin _ _ a b i s (cases_eq i a) (cases_eq i b) in
      let y = origin _ _ a b j s (cases_eq j a) (cases_eq j b) in
      let same = one_place xs once x.0 y.0 d (omega (arith, x.1)) (omega (arith, y.1)) (sym x.2 ∙ e ∙ y.2) in
      omega (arith, x.1, y.1);
}

pub once_moved : (old new : List Name) → IsPermutation old new → IsOnce (texts old) → IsOnce (texts new)
once_moved old new moved once = IsPermutation-keeps (texts old) IsOnce once once_swapped (texts new) (IsPermutation-map (λ n. n.now) old new moved)

pub once_moved_back : (old new : List Name) → IsPermutation old new → IsOnce (texts new) → IsOnce (texts old)
once_moved_back old new moved = once_moved new old (IsPermutation-sym old new moved)

-- ---- a sorted list

abbrev pub name_cmp : Name → Name → Ordering
name_cmp a b = slice_cmp nat_cmp a.now b.now

only_less : (o p : Ordering) → o ≡ ordering_reverse p → is_lt p ≡ false → is_eq o ≡ false → o ≡ Less
only_less o Less e p q = cc
only_less o Equal e p q = let tie = ap is_eq (sym e) ∙ q in cc
only_less o Greater e p q = e

-- neighbours that are in order and differ rise strictly, and so do all pairs
pub differ_sorted : (names : List Name) → IsSorted name_cmp names → ((k : ℕ) → k + 1 < length names → DifferAt names k (k + 1))
    → (i j : ℕ) → i < j → j < length names → DifferAt names i j
differ_sorted names sorted neighbours i j less within d =
    let total = on_total (λ (n : Name). n.now) nat_list_cmp_total in
    let rises : (k : ℕ) → k + 1 < length names → name_cmp (get_or names k d) (get_or names (k + 1) d) ≡ Less =
    λ k h. let x = get_or names k d in let y = get_or names (k + 1) d in
    only_less (name_cmp x y) (name_cmp y x) (total.antisymm x y) (sorted k d (omega arith) h) (is_eq-slice_cmp x.now y.now ∙ neighbours k h d) in
    let below = Less-from_sorted name_cmp names i j d (sorted_from_all_adjacent total names d rises) less within in
    sym (is_eq-slice_cmp (get_or names i d).now (get_or names j d).now) ∙ ap is_eq below

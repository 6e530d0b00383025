-- The place of an inode.
use Rattle.fs_machine.proofs.Vocabulary.{◌≡◌, ℕ, zero, suc, ◌+◌, ◌<◌, ◌≤◌, ◌==◌, List, [], ◌∷◌, length, get_or, set, length-set, Bool, true, false, cond, not, refl, sym, ◌∙◌, ap, subst, arith, Option, Some, None, nat_lt, inl, inr, slice_get, slice_set, ◌&&◌, cases_eq, nat_tests, position, position_or_len, slice_get_within, slice_get-get_or, get_or_from_slice_get, same_Some, none-some, position-Some, SlotState, slice_get-set_same, slice_get-set_other, Entry, Inode, change_at, is_for, place_of, IsOnce, AllPlaced, PlaceFits}

-- ---- lists

pub set_change : {X : Type 0} (k : ℕ) (f : X → X) (xs : List X) (d : X) → k < length xs → set xs k (f (get_or xs k d)) ≡ change_at k f xs
set_change k f [] d lt = absurd (omega (arith, lt))
set_change zero f (x ∷ xs) d lt = refl
set_change (suc k) f (x ∷ xs) d lt = ap (λ ys. x ∷ ys) (set_change k f xs d (omega (arith, lt)))

-- the element there is x
pub change_set : {X : Type 0} (k : ℕ) (f : X → X) (xs : List X) (x : X) → slice_get xs k ≡ Some x → change_at k f xs ≡ set xs k (f x)
change_set k f xs x e =
    sym (set_change k f xs x (slice_get_within xs k x e)) ∙ ap (λ y. set xs k (f y)) (get_or_from_slice_get xs k x x e)

pub length-change_at : {X : Type 0} (k : ℕ) (f : X → X) (xs : List X) → length (change_at k f xs) ≡ length xs
length-change_at k f [] = refl
length-change_at zero f (x ∷ xs) = refl
length-change_at (suc k) f (x ∷ xs) = ap suc (length-change_at k f xs)

pub position_none : {X : Type 0} (p : X → Bool) (xs : List X) → position p xs ≡ None → length xs ≤ position_or_len p xs
position_none p xs e = tests (position_or_len p xs) (length xs) e
  where
    tests : (a n : ℕ) → cond (nat_lt a n) (Some a) None ≡ None → n ≤ a
    tests a n e = grind (arith, nat_tests)

pub none_passes : {X : Type 0} (p : X → Bool) (xs : List X) (k : ℕ) (x : X) → length xs ≤ position_or_len p xs → slice_get xs k ≡ Some x → p x ≡ false
none_passes p [] k x le e = absurd (none-some x e)
none_passes {X} p (y ∷ ys) k x le e = found (p y) refl le k e (λ l j f. none_passes p ys j x l f)
  where
    found : (t : Bool) → p y ≡ t → suc (length ys) ≤ cond (not t) (1 + position_or_len p ys) 0 → (k : ℕ) → slice_get (y ∷ ys) k ≡ Some x
        → (length ys ≤ position_or_len p ys → (j : ℕ) → slice_get ys j ≡ Some x → p x ≡ false) → p x ≡ false
    found true is le k e more = absurd (omega (arith, le))
    found false is le zero e more = ap p (sym (same_Some _ _ e)) ∙ is
    found false is le (suc k) e more = more (omega (arith, le)) k e

-- ---- places

nothing : Entry
nothing = record { number = 0; references = 0 }

-- the entry at the place that was found
pub record Found (n : ℕ) (entries : List Entry) (k : ℕ) : Type 0 where
  pub entry : Entry
  pub there : slice_get entries k ≡ Some entry
  pub number : entry.number ≡ n
  pub referenced : 0 < entry.references

passes : (n a r : ℕ) → ((a == n) && nat_lt 0 r) ≡ true → (a ≡ n) × (0 < r)
passes n a r e = grind (arith, nat_tests)

pub found : (n : ℕ) (entries : List Entry) (k : ℕ) → place_of n entries ≡ Some k → Found n entries k
found n entries k e =
    let at = position-Some (is_for n) entries k nothing e in
    let v = get_or entries k nothing in
    let is = passes n v.number v.references at.1 in
    record { entry = v; there = slice_get-get_or entries k nothing at.0; number = is.0; referenced = is.1 }

pub fails : (n a r : ℕ) → a ≡ n → 0 < r → ((a == n) && nat_lt 0 r) ≡ false → ⊥
fails n a r e lt isnt = grind (arith, nat_tests)

-- a referenced inode is found at its place
pub placed : (n : ℕ) (entries : List Entry) (k : ℕ) → IsOnce entries → Found n entries k → place_of n entries ≡ Some k
unfolding IsOnce
placed n entries k once f = at (place_of n entries) refl
  where
    at : (o : Option ℕ) → place_of n entries ≡ o → place_of n entries ≡ Some k
    at None e = absurd (fails n f.entry.number f.entry.references f.number f.referenced (none_passes (is_for n) entries k f.entry (position_none (is_for n) entries e) f.there))
    at (Some j) e =
        let g = found n entries j e in
        e ∙ ap (λ i. Some i) (once j k g.entry f.entry g.there f.there g.referenced f.referenced (g.number ∙ sym f.number))

-- a lock that fits is put at its place
pub all_placed_set : (entries : List Entry) (locks : List (SlotState Inode)) (k : ℕ) (e : Entry) (s : SlotState Inode) → slice_get entries k ≡ Some e → PlaceFits k e s
    → AllPlaced entries locks → AllPlaced entries (slice_set locks k s)
unfolding AllPlaced
all_placed_set entries locks k e s there fits all j f t ef et =
    elim (cases_eq j k) [
      | inl same ↦ by_same same
      | inr other ↦ all j f t ef (sym (slice_get-set_other locks k j s other) ∙ et)
    ]
  where
    by_same : j ≡ k → PlaceFits j f t
    by_same same =
        let et' : slice_get (slice_set locks k s) k ≡ Some t = subst (λ i. slice_get (slice_set locks k s) i ≡ Some t) same et in
        let within : k < length (slice_set locks k s) = slice_get_within (slice_set locks k s) k t et' in
        let within' : k < length locks = subst (λ (m : ℕ). k < m) (length-set locks k s) within in
        let is : s ≡ t = same_Some _ _ (sym (slice_get-set_same locks k s within') ∙ et') in
        let ef' : slice_get entries k ≡ Some f = subst (λ i. slice_get entries i ≡ Some f) same ef in
        let is' : e ≡ f = same_Some _ _ (sym there ∙ ef') in
        subst (λ i. PlaceFits i f t) (sym same) (subst (λ (v : Entry). PlaceFits k v t) is' (subst (λ (v : SlotState Inode). PlaceFits k e v) is fits))

-- Whether a name comes twice, by a sorted set of those before it.
use Rattle.mkfs.proofs.Vocabulary.{◌≡◌, ◌≢◌, ◌⊎◌, inl, inr, ⊎_elim, ℕ, ◌+◌, ◌<◌, ◌≤◌, Bool, true, false, ◌||◌, not, List, [], ◌∷◌, length, get_or, refl, sym, ap, ◌∙◌, arith, below_more, list_any, AllPairs, bytes_eq, slice_cmp, nat_cmp, match_ordering, Ordering, Less, Equal, Greater, is_at, insert_key, get_or_default, is_eq-slice_cmp, exact_bytes, bytes_eq-Decides}

or-twice : (a m : Bool) → (a || m) ≡ (a || (a || m))
or-twice true m = refl
or-twice false m = refl

or-swap : (a b m : Bool) → (a || (b || m)) ≡ (b || (a || m))
or-swap true true m = refl
or-swap true false m = refl
or-swap false true m = refl
or-swap false false m = refl

or-split : (a b : Bool) → (a || b) ≡ true → (a ≡ true) ⊎ (b ≡ true)
or-split true b h = inl refl
or-split false b h = inr h

or-right : (a b : Bool) → b ≡ true → (a || b) ≡ true
or-right true b h = refl
or-right false b h = h

or-left : (a b : Bool) → a ≡ true → (a || b) ≡ true
or-left true b h = refl
or-left false b h = absurd (cc)

not-both : (b : Bool) → b ≡ true → b ≡ false → ⊥
not-both b h e = let bad : true ≡ false = sym h ∙ e in (cc)

pub not-true : (b r : Bool) → r ≡ not b → r ≡ true → b ≡ false
not-true true r e h = absurd (let bad : false ≡ true = sym e ∙ h in (cc))
not-true false r e h = refl

pub not-false : (b r : Bool) → r ≡ not b → r ≡ false → b ≡ true
not-false true r e h = refl
not-false false r e h = absurd (let bad : true ≡ false = sym e ∙ h in (cc))

module _ {K : Type 0} (v : K → List ℕ) where
  -- whether one of the keys has these bytes
  abbrev pub has : List K → List ℕ → Bool
  has ks q = list_any (λ k. bytes_eq q (v k)) ks

  abbrev pub order : K → K → Ordering
  order x y = slice_cmp nat_cmp (v x) (v y)

  pub contains-has : (ks : List K) (key : K) → list_any (is_at (order key)) ks ≡ has ks (v key)
  contains-has [] key = refl
  contains-has (k ∷ ks) key =
      ap (λ (b : Bool). b || list_any (is_at (order key)) ks) (is_eq-slice_cmp (v key) (v k))
      ∙ ap (λ (b : Bool). bytes_eq (v key) (v k) || b) (contains-has ks key)

  has-insert : (ks : List K) (key : K) (q : List ℕ) → has (insert_key order ks key) q ≡ (bytes_eq q (v key) || has ks q)
  has-insert [] key q = refl
  has-insert (k ∷ ks) key q =
      let rest : Bool = has ks q in
      let this : Bool = bytes_eq q (v k) in
      elim (order key k) as (λ o. order key k ≡ o → has (match_ordering o (key ∷ k ∷ ks) (k ∷ ks) (k ∷ insert_key order ks key)) q ≡ (bytes_eq q (v key) || (this || rest))) [
        | Less ↦ λ e. refl
        | Equal ↦ λ e.
            let same : bytes_eq q (v key) ≡ this = ap (bytes_eq q) (exact_bytes (v key) (v k) e) in
            or-twice this rest ∙ ap (λ (b : Bool). b || (this || rest)) (sym same)
        | Greater ↦ λ e. ap (λ (b : Bool). this || b) (has-insert ks key q) ∙ or-swap this (bytes_eq q (v key)) rest
      ] refl

  -- the keys are the first i names, and no two of these are one
  pub record Seen (names : List (List ℕ)) (keys : List K) (i : ℕ) : Type 0 where
    pub comes : (q : List ℕ) → has keys q ≡ true → (k : ℕ) × (k < i) × (q ≡ get_or names k [])
    pub there : (k : ℕ) → k < i → has keys (get_or names k []) ≡ true
    pub once : (k : ℕ) → k < i → (j : ℕ) → j < k → get_or names j [] ≢ get_or names k []

  pub seen-none : (names : List (List ℕ)) (keys : List K) → keys ≡ [] → Seen names keys 0
  seen-none names keys e = record {
    comes = λ q h. let none : false ≡ true = sym (ap (λ (ks : List K). has ks q) e) ∙ h in (cc);
    there = λ k h. absurd (omega arith);
    once = λ k h j l. absurd (omega arith);
  }

  pub seen-more : (names : List (List ℕ)) (keys more : List K) (key : K) (i : ℕ)
      → more ≡ insert_key order keys key → v key ≡ get_or names i [] → has keys (v key) ≡ false → Seen names keys i → Seen names more (i + 1)
  seen-more names keys more key i e same fresh seen =
      let now : (q : List ℕ) → has more q ≡ (bytes_eq q (v key) || has keys q) = λ q. ap (λ (ks : List K). has ks q) e ∙ has-insert keys key q in
      record {
        comes = λ q h.
            ⊎_elim
            (λ this. (i, omega arith, (bytes_eq-Decides q (v key)).0 this ∙ same))
            (λ old. let was = seen.comes q old in (was.0, omega (arith, was.1), was.2))
            (or-split (bytes_eq q (v key)) (has keys q) (sym (now q) ∙ h));
        there = below_more (λ k. has more (get_or names k []) ≡ true) i
            (λ k h. now (get_or names k []) ∙ or-right (bytes_eq (get_or names k []) (v key)) (has keys (get_or names k [])) (seen.there k h))
            (now (get_or names i []) ∙ or-left (bytes_eq (get_or names i []) (v key)) (has keys (get_or names i [])) ((bytes_eq-Decides (get_or names i []) (v key)).1 (sym same)));
        once = below_more (λ k. (j : ℕ) → j < k → get_or names j [] ≢ get_or names k []) i seen.once
            (λ j l d. not-both (has keys (v key)) (ap (has keys) (same ∙ sym d) ∙ seen.there j l) fresh);
      }

  pub seen-all : (names : List (List ℕ)) (keys : List K) (i : ℕ) → length names ≤ i → Seen names keys i → AllPairs (λ x y. x ≢ y) names
  seen-all names keys i h seen =
      λ j k d l m e.
      let below : k < i = omega arith in
      let first : j < length names = omega arith in
      seen.once k below j l (get_or_default names j [] d first ∙ e ∙ get_or_default names k d [] m)

  pub seen-double : (names : List (List ℕ)) (keys : List K) (key : K) (i : ℕ) → i < length names → v key ≡ get_or names i []
      → has keys (v key) ≡ true → Seen names keys i → ¬ AllPairs (λ x y. x ≢ y) names
  seen-double names keys key i h same there seen all =
      let was = seen.comes (v key) there in
      all was.0 i [] was.1 h (sym was.2 ∙ same)

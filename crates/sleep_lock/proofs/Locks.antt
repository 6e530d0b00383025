-- What a lock and an unlock keep, for all crates above.
use Rattle.sleep_lock.proofs.Vocabulary.{◌≡◌, ◌≢◌, ◌+◌, ◌<◌, ℕ, zero, suc, List, [], ◌∷◌, ◌++◌, length, add-zero, Some, None, refl, ap, sym, ◌∙◌, inl, inr, subst, length-set, arith, Option, IfSome, slice_get, slice_set, slice_get_within, same_Some, none-some, cases_eq, SlotState, GuardState, guard_of, taken, filled, emptied, row_of, lock_at, lock_of, unlocked, IsOut, IsNumbered, LeavesOthers}
use Rattle.sleep_lock.proofs.Lists.{set_same, slice_get-set_same, slice_get-set_other}

-- what a slot gives and leaves, written back, is the lock tried
pub lock_gives : {T : Type 0} (slots : List (SlotState T)) (number hart : ℕ) (s : SlotState T) → slice_get slots number ≡ Some s
    → (slice_set slots number (taken s hart), guard_of s hart) ≡ lock_of slots number hart
unfolding lock_of
lock_gives slots number hart s e = ap (lock_at slots number hart) (sym e)

-- a write at a slot that is in no other hart's hand
pub others_set : {T : Type 0} (hart : ℕ) (slots : List (SlotState T)) (k : ℕ) (s new : SlotState T) → slice_get slots k ≡ Some s
    → ((g : GuardState T) → g.hart ≢ hart → emptied g ≡ s → emptied g ≡ new) → LeavesOthers hart slots (slice_set slots k new)
unfolding IsOut
others_set hart slots k s new e stays g ne out =
    elim (cases_eq g.number k) [
      | inl same ↦
          let is : emptied g ≡ s = same_Some _ _ (sym out ∙ (ap (slice_get slots) same ∙ e)) in
          ap (slice_get (slice_set slots k new)) same ∙ slice_get-set_same slots k new (slice_get_within slots k s e) ∙ ap (λ w. Some w) (sym (stays g ne is))
      | inr other ↦ slice_get-set_other slots k g.number new other ∙ out
    ]

pub others_same : {T : Type 0} (hart : ℕ) (slots : List (SlotState T)) → LeavesOthers hart slots slots
others_same hart slots g ne out = out

pub others_unlocked : {T : Type 0} (slots : List (SlotState T)) (g : GuardState T) → IsOut slots g → LeavesOthers g.hart slots (unlocked slots g)
unfolding unlocked IsOut
others_unlocked {T} slots g out =
    others_set g.hart slots g.number (emptied g) _ out (λ h ne is. absurd (ne (same_Some _ _ (ap (λ (x : SlotState T). x.holder) is))))

-- a write that keeps the number
pub numbered_set : {T : Type 0} (slots : List (SlotState T)) (k : ℕ) (new : SlotState T) → new.number ≡ k → IsNumbered slots → IsNumbered (slice_set slots k new)
unfolding IsNumbered
numbered_set {T} slots k new n numbered j s e =
    elim (cases_eq j k) [
      | inl same ↦ by_same same
      | inr other ↦ numbered j s (sym (slice_get-set_other slots k j new other) ∙ e)
    ]
  where
    by_same : j ≡ k → s.number ≡ j
    by_same same =
        let inside : k < length slots =
        rw (← same) (rw (← length-set slots k new) (slice_get_within (slice_set slots k new) j s e)) in
        let is : s ≡ new =
        same_Some _ _ (sym e ∙ (ap (slice_get (slice_set slots k new)) same ∙ slice_get-set_same slots k new inside)) in
        ap (λ (x : SlotState T). x.number) is ∙ (n ∙ sym same)

pub numbered_unlocked : {T : Type 0} (slots : List (SlotState T)) (g : GuardState T) → IsNumbered slots → IsNumbered (unlocked slots g)
unfolding unlocked
numbered_unlocked slots g numbered = numbered_set slots g.number _ refl numbered

-- a lock tried: what others hold stays out, the numbers stay, and what is taken is out in the hart's hand
pub record LockLaws {T : Type 0} (number hart : ℕ) (old : List (SlotState T)) (r : List (SlotState T) × Option (GuardState T)) : Type 0 where
  pub others : LeavesOthers hart old r.0
  pub numbered : IsNumbered old → IsNumbered r.0
  pub length_same : length r.0 ≡ length old
  pub out : IsNumbered old → (g : GuardState T) → r.1 ≡ Some g → (g.number ≡ number) × (g.hart ≡ hart) × IsOut r.0 g

laws_at : {T : Type 0} (slots : List (SlotState T)) (number hart n : ℕ) (o : Option T) (h : Option ℕ)
    → (let s : SlotState T = record { number = n; inside = o; holder = h } in
    slice_get slots number ≡ Some s → LockLaws number hart slots (slice_set slots number (taken s hart), guard_of s hart))
unfolding IsNumbered IsOut
laws_at {T} slots number hart n None h e =
    let s : SlotState T = record { number = n; inside = None; holder = h } in
    let same : slice_set slots number s ≡ slots = set_same slots number s e in
    record {
      others = others_set hart slots number s s e (λ g ne is. is);
      numbered = λ old. rw same old;
      length_same = length-set slots number s;
      out = λ old g is. absurd (none-some g is);
    }
laws_at {T} slots number hart n (Some v) h e =
    let s : SlotState T = record { number = n; inside = Some v; holder = h } in
    let left : SlotState T = record { number = n; inside = None; holder = Some hart } in
    record {
      others = others_set hart slots number s left e (λ g ne is. absurd (none-some v (ap (λ (x : SlotState T). x.inside) is)));
      numbered = λ old. numbered_set slots number left (old number s e) old;
      length_same = length-set slots number left;
      out = λ old g is.
          let same : record { number = n; hart = hart; value = v } ≡ g = same_Some _ _ is in
          let P : GuardState T → Type 0 = λ w. (w.number ≡ number) × (w.hart ≡ hart) × IsOut (slice_set slots number left) w in
          subst P same (old number s e, refl, ap (slice_get (slice_set slots number left)) (old number s e) ∙ slice_get-set_same slots number left (slice_get_within slots number s e));
    }

laws_of : {T : Type 0} (slots : List (SlotState T)) (number hart : ℕ) (o : Option (SlotState T)) → slice_get slots number ≡ o
    → LockLaws number hart slots (lock_at slots number hart o)
laws_of slots number hart None e =
    record { others = others_same hart slots; numbered = λ old. old; length_same = refl; out = λ old g is. absurd (none-some g is) }
laws_of slots number hart (Some s) e = laws_at slots number hart s.number s.inside s.holder e

pub lock_laws : {T : Type 0} (slots : List (SlotState T)) (number hart : ℕ) → LockLaws number hart slots (lock_of slots number hart)
unfolding lock_of
lock_laws slots number hart = laws_of slots number hart (slice_get slots number) refl

-- a new row has its places as numbers
numbered_from : {T : Type 0} (n : ℕ) (values : List T) (k : ℕ) (s : SlotState T) → slice_get (row_of n values) k ≡ Some s → s.number ≡ n + k
numbered_from n [] k s e = absurd (none-some s e)
numbered_from {T} n (v ∷ vs) zero s e = let is = same_Some _ _ e in let at = ap (λ (x : SlotState T). x.number) is in omega (arith, at)
numbered_from n (v ∷ vs) (suc k) s e = let at = numbered_from (n + 1) vs k s e in omega (arith, at)

pub numbered_row : {T : Type 0} (values : List T) → IsNumbered (row_of 0 values)
unfolding IsNumbered
numbered_row values k s e = let at = numbered_from 0 values k s e in omega (arith, at)

pub IfSome_each : {T : Type 0} {P : T → Type 0} (o : Option T) → ((x : T) → o ≡ Some x → P x) → IfSome o P
IfSome_each None each = tt
IfSome_each (Some x) each = each x refl

-- one more value is one more slot
pub row_of-push : {T : Type 0} (n : ℕ) (values : List T) (v : T) → row_of n (values ++ v ∷ []) ≡ row_of n values ++ filled (n + length values) v ∷ []
row_of-push n [] v = ap (λ (k : ℕ). filled k v ∷ []) (sym (add-zero n))
row_of-push n (w ∷ ws) v =
    ap (λ ss. filled n w ∷ ss) (row_of-push (n + 1) ws v ∙ ap (λ (k : ℕ). row_of (n + 1) ws ++ filled k v ∷ []) (let e : n + 1 + length ws ≡ n + suc (length ws) = omega arith in e))

pub length-row_of : {T : Type 0} (n : ℕ) (values : List T) → length (row_of n values) ≡ length values
length-row_of n [] = refl
length-row_of n (v ∷ vs) = ap suc (length-row_of (n + 1) vs)

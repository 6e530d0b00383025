-- The tables at first are sound.
use Rattle.fs_machine.proofs.Vocabulary.{◌≡◌, inl, inr, ℕ, zero, suc, ◌+◌, ◌<◌, List, [], ◌∷◌, refl, sym, ◌∙◌, ap, subst, arith, Some, None, replicate, slice_get, slice_set, same_Some, none-some, SlotState, filled, row_of, Entry, Inode, fresh, IsSoundInodes, AllPlaced, PlaceFits, IsOnce}
use Rattle.fs_machine.proofs.Counting.{at_set}

replicate_at : {X : Type 0} (n k : ℕ) (x y : X) → slice_get (replicate n x) k ≡ Some y → y ≡ x
replicate_at zero k x y e = absurd (none-some y e)
replicate_at (suc n) zero x y e = sym (same_Some _ _ e)
replicate_at (suc n) (suc k) x y e = replicate_at n k x y e

row_at : {T : Type 0} (n : ℕ) (values : List T) (k : ℕ) (s : SlotState T) → slice_get (row_of n values) k ≡ Some s → (v : T) × (slice_get values k ≡ Some v) × (s ≡ filled (n + k) v)
row_at n [] k s e = absurd (none-some s e)
row_at {T} n (v ∷ vs) zero s e = let same : n ≡ n + 0 = omega arith in (v, refl, sym (same_Some _ _ e) ∙ ap (λ (m : ℕ). filled m v) same)
row_at {T} n (v ∷ vs) (suc k) s e =
    let more = row_at (n + 1) vs k s e in
    let same : n + 1 + k ≡ n + suc k = omega arith in
    (more.0, more.1, more.2 ∙ ap (λ (m : ℕ). filled m more.0) same)

abbrev unused : Entry
unused = record { number = 1; references = 0 }

abbrev first : Entry
first = record { number = 1; references = 8 }

abbrev pub root_inode : Inode
root_inode = record { number = 1; content = None }

pub fresh_good : IsSoundInodes fresh.entries fresh.locks
unfolding AllPlaced IsOnce
fresh_good = record {
  places = refl;
  same = refl;
  placed = λ k e s ee es. fits k e s ee (row_at 0 (replicate 50 root_inode) k s es);
  once = λ j k e f ej ek le lf number. at_first j e ej le ∙ sym (at_first k f ek lf);
}
  where
    fits : (k : ℕ) (e : Entry) (s : SlotState Inode) → slice_get (slice_set (replicate 50 unused) 0 first) k ≡ Some e
        → (v : Inode) × (slice_get (replicate 50 root_inode) k ≡ Some v) × (s ≡ filled (0 + k) v) → PlaceFits k e s
    fits k e s ee r =
        let is : r.0 ≡ root_inode = replicate_at 50 k root_inode r.0 r.1 in
        let same : 0 + k ≡ k = omega arith in
        let number : e.number ≡ 1 = elim (at_set (replicate 50 unused) 0 k first e ee) [
          | inl here ↦ ap (λ (x : Entry). x.number) here.1
          | inr there ↦ ap (λ (x : Entry). x.number) (replicate_at 50 k unused e there.1)
        ] in
        let all : PlaceFits k e (filled (0 + k) r.0) = (same, (refl, λ _. ap (λ (x : Inode). x.number) is ∙ sym number)) in
        subst (λ (x : SlotState Inode). PlaceFits k e x) (sym r.2) all

    at_first : (k : ℕ) (e : Entry) → slice_get (slice_set (replicate 50 unused) 0 first) k ≡ Some e → 0 < e.references → k ≡ 0
    at_first k e ee lt = elim (at_set (replicate 50 unused) 0 k first e ee) [
      | inl here ↦ here.0
      | inr there ↦
          let none : e.references ≡ 0 = ap (λ (x : Entry). x.references) (replicate_at 50 k unused e there.1) in
          absurd (omega (arith, none, lt))
    ]

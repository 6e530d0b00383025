-- A free place that becomes an inode's, and what counting up answers.
use Rattle.fs_machine.proofs.Vocabulary.{◌≡◌, ◌≢◌, ℕ, ◌==◌, ◌<◌, List, length, length-set, get_or, true, refl, sym, ◌∙◌, ap, subst, arith, Option, Some, None, inl, inr, slice_get, slice_set, IfSome, position, set-set, nat_tests, position-Some, slice_get-get_or, same_Some, none-some, SlotState, GuardState, guard_of, taken, filled, lock_of, unlocked, IsOut, slice_get-set_other, Ran, Entry, Inode, TablesState, place_of, is_for, is_unused, up_inode, up_by, up_new, counted_at, begun_at, LeavesLocked, IsSoundInodes, AllPlaced, PlaceFits, IsOnce}
use Rattle.fs_machine.proofs.Places.{position_none, none_passes, fails}
use Rattle.fs_machine.proofs.Locking.{slot_at, lock_is}
use Rattle.fs_machine.proofs.Counting.{at_set}

-- a free place
pub record Free (entries : List Entry) (k : ℕ) : Type 0 where
  pub entry : Entry
  pub there : slice_get entries k ≡ Some entry
  pub none : entry.references ≡ 0

unused : (r : ℕ) → (r == 0) ≡ true → r ≡ 0
unused r e = grind (arith, nat_tests)

pub free : (entries : List Entry) (k : ℕ) → position is_unused entries ≡ Some k → Free entries k
free entries k e =
    let d : Entry = record { number = 0; references = 0 } in
    let at = position-Some is_unused entries k d e in
    record { entry = get_or entries k d; there = slice_get-get_or entries k d at.0; none = unused (get_or entries k d).references at.1 }

pub free_if : (entries : List Entry) (k : ℕ) → Free entries k → IfSome (slice_get entries k) (λ e. e.references ≡ 0)
free_if entries k f = subst (λ o. IfSome o (λ (e : Entry). e.references ≡ 0)) (sym f.there) f.none

pub free_from : (entries : List Entry) (k : ℕ) → k < length entries → IfSome (slice_get entries k) (λ e. e.references ≡ 0) → Free entries k
free_from entries k lt p =
    let d : Entry = record { number = 0; references = 0 } in
    let at = slice_get-get_or entries k d lt in
    record { entry = get_or entries k d; there = at; none = subst (λ o. IfSome o (λ (e : Entry). e.references ≡ 0)) at p }

-- its lock isn't out
in_slot : (h k : ℕ) (e : Entry) (n : ℕ) (inside : Option Inode) (holder : Option ℕ) → e.references ≡ 0 → PlaceFits k e (record { number = n; inside = inside; holder = holder })
    → None ≡ guard_of (record { number = n; inside = inside; holder = holder }) h → ⊥
in_slot h k e n None holder none fits is = let some = fits.1.1 in omega (arith, none, some)
in_slot h k e n (Some v) holder none fits is = none-some _ is

pub free_in : (h k : ℕ) (entries : List Entry) (locks new : List (SlotState Inode)) → Free entries k → IsSoundInodes entries locks → (new, None) ≡ lock_of locks k h → ⊥
free_in h k entries locks new f sound gives =
    let at = slot_at entries locks k f.entry sound f.there in
    let s = at.0 in
    in_slot h k f.entry s.number s.inside s.holder f.none at.2 (lock_is locks new k h s None at.1 gives).1

pub out_replaced : (locks : List (SlotState Inode)) (g g' : GuardState Inode) (w : Inode) → g' ≡ record g { value = w } → IsOut locks g → IsOut locks g'
unfolding IsOut
out_replaced locks g g' w is out = subst (λ (z : GuardState Inode). IsOut locks z) (sym is) out

-- the lock taken, and given back with another inode
pub begun_locks : (h k : ℕ) (entries : List Entry) (locks new after : List (SlotState Inode)) (g g' : GuardState Inode) (w : Inode) → Free entries k → IsSoundInodes entries locks
    → (new, Some g) ≡ lock_of locks k h → g.number ≡ k → g' ≡ record g { value = w } → after ≡ unlocked new g' → after ≡ slice_set locks k (filled k w)
unfolding unlocked
begun_locks h k entries locks new after g g' w f sound gives number is back =
    let at = slot_at entries locks k f.entry sound f.there in
    let had = (lock_is locks new k h at.0 (Some g) at.1 gives).0 in
    back ∙ (ap (λ (z : GuardState Inode). slice_set new z.number (filled z.number z.value)) is
    ∙ (ap (λ (j : ℕ). slice_set new j (filled j w)) number
    ∙ (ap (λ (l : List (SlotState Inode)). slice_set l k (filled k w)) had ∙ set-set locks k (taken at.0 h) (filled k w))))

pub begun_good : (n k : ℕ) (entries : List Entry) (locks : List (SlotState Inode)) → Free entries k → place_of n entries ≡ None → IsSoundInodes entries locks
    → IsSoundInodes (slice_set entries k (record { number = n; references = 1 })) (slice_set locks k (filled k (record { number = n; content = None })))
unfolding AllPlaced IsOnce
begun_good n k entries locks f none sound =
    record {
      places = length-set entries k new ∙ sound.places;
      same = length-set locks k slot ∙ sound.same;
      placed = λ j e s ee es.
          elim (at_set entries k j new e ee) [
            | inl here ↦
                let es' : slice_get (slice_set locks k slot) j ≡ Some s = es in
                elim (at_set locks k j slot s es') [
                  | inl there ↦ subst (λ (v : SlotState Inode). PlaceFits j e v) (sym there.1) (subst (λ (v : Entry). PlaceFits j v slot) (sym here.1) (sym here.0, (refl, λ _. refl)))
                  | inr other ↦ absurd (other.0 here.0)
                ]
            | inr other ↦
                elim (at_set locks k j slot s es) [
                  | inl there ↦ absurd (other.0 there.0)
                  | inr there ↦ sound.placed j e s other.1 there.1
                ]
          ];
      once = λ i j e g ee eg le lg number.
          elim (at_set entries k i new e ee) [
            | inl here ↦ elim (at_set entries k j new g eg) [
              | inl there ↦ here.0 ∙ sym there.0
              | inr other ↦ absurd (nowhere j g other.1 lg (sym number ∙ ap (λ (v : Entry). v.number) here.1))
            ]
            | inr other ↦ elim (at_set entries k j new g eg) [
              | inl there ↦ absurd (nowhere i e other.1 le (number ∙ ap (λ (v : Entry). v.number) there.1))
              | inr else ↦ sound.once i j e g other.1 else.1 le lg number
            ]
          ];
    }
  where
    new : Entry
    new = record { number = n; references = 1 }

    slot : SlotState Inode
    slot = filled k (record { number = n; content = None })

    nowhere : (i : ℕ) (e : Entry) → slice_get entries i ≡ Some e → 0 < e.references → e.number ≡ n → ⊥
    nowhere i e there lt number = fails n e.number e.references number lt (none_passes (is_for n) entries i e (position_none (is_for n) entries none) there)

pub begun_locked : (n k : ℕ) (t : TablesState) → Free t.entries k → LeavesLocked t (begun_at n k t)
unfolding IsOut
begun_locked n k t f g l =
    let apart : g.number ≢ k =
    λ e.
    let is : l.entry ≡ f.entry = same_Some _ _ (sym (subst (λ i. slice_get t.entries i ≡ Some l.entry) e l.there) ∙ f.there) in
    let none = f.none in
    let some : 0 < f.entry.references = subst (λ (v : Entry). 0 < v.references) is l.referenced in
    omega (arith, none, some) in
    record {
      out = slice_get-set_other t.locks k g.number _ apart ∙ l.out;
      entry = l.entry;
      there = slice_get-set_other t.entries k g.number _ apart ∙ l.there;
      number = l.number;
      referenced = l.referenced;
    }

-- what is answered
pub up_counted : (n k : ℕ) (t : TablesState) → place_of n t.entries ≡ Some k → up_inode n t ≡ Ran (Some n) (counted_at k t)
unfolding up_inode
up_counted n k t e = ap (up_by n t) e

pub up_begun : (n k : ℕ) (t : TablesState) → place_of n t.entries ≡ None → position is_unused t.entries ≡ Some k → up_inode n t ≡ Ran (Some n) (begun_at n k t)
unfolding up_inode
up_begun n k t e at = ap (up_by n t) e ∙ ap (up_new n t) at

pub up_full : (n : ℕ) (t : TablesState) → place_of n t.entries ≡ None → position is_unused t.entries ≡ None → up_inode n t ≡ Ran None t
unfolding up_inode
up_full n t e at = ap (up_by n t) e ∙ ap (up_new n t) at

-- What the lock of an inode tried, or given back, makes of the tables.
use Rattle.fs_machine.proofs.Vocabulary.{◌≡◌, ◌≢◌, ℕ, ◌<◌, List, length, length-set, get_or, refl, sym, ◌∙◌, ap, subst, arith, Option, Some, None, inl, inr, IfSome, slice_get, slice_set, cases_eq, slice_get_within, slice_get-get_or, same_Some, none-some, SlotState, GuardState, guard_of, taken, filled, emptied, lock_row_at, lock_of, unlocked, IsOut, IsNumbered, set_same, slice_get-set_same, slice_get-set_other, lock_laws, change_at, Entry, Inode, TablesState, place_of, lock_holder as holder_of, holder_in, holder_at, IsLocked, LeavesLocked, lock_inode, lock_at, unlock_inode, unlock_at, locked_as, IsSoundInodes, AllPlaced, IsOnce, PlaceFits}
use Rattle.fs_machine.specs.Inodes.{got_by}
use Rattle.fs_machine.proofs.Places.{Found, placed, change_set, all_placed_set}

pub lock_ran : (h n k : ℕ) (t : TablesState) (new : List (SlotState Inode)) (r : Option (GuardState Inode)) → place_of n t.entries ≡ Some k → (new, r) ≡ lock_of t.locks k h
    → lock_inode h n t ≡ locked_as r (record t { locks = new })
unfolding lock_inode
lock_ran h n k t new r e gives = ap (lock_at h t) e ∙ (ap (got_by t) (sym gives) ∙ at r)
  where
    at : (r : Option (GuardState Inode)) → got_by t (new, r) ≡ locked_as r (record t { locks = new })
    at None = refl
    at (Some guard) = refl

pub lock_waits : (h n : ℕ) (t : TablesState) → place_of n t.entries ≡ None → lock_inode h n t ≡ locked_as None t
unfolding lock_inode
lock_waits h n t e = ap (lock_at h t) e

-- the lock's slot
pub slot_at : (entries : List Entry) (locks : List (SlotState Inode)) (k : ℕ) (e : Entry) → IsSoundInodes entries locks → slice_get entries k ≡ Some e
    → (s : SlotState Inode) × (slice_get locks k ≡ Some s) × PlaceFits k e s
unfolding AllPlaced
slot_at entries locks k e sound there =
    let within : k < length locks = let a = slice_get_within entries k e there in let b = sound.places in let c = sound.same in omega (arith, a, b, c) in
    let d : SlotState Inode = record { number = 0; inside = None; holder = None } in
    let at = slice_get-get_or locks k d within in
    (get_or locks k d, at, sound.placed k e (get_or locks k d) there at)

-- a guard's place
pub found_locked : (g : GuardState Inode) (t : TablesState) → IsLocked g t → Found g.value.number t.entries g.number
found_locked g t l = record { entry = l.entry; there = l.there; number = l.number; referenced = l.referenced }

-- the slot of a lock that is out
emptied_at : (g : GuardState Inode) (t : TablesState) (k : ℕ) (s : SlotState Inode) → g.number ≡ k → IsLocked g t → slice_get t.locks k ≡ Some s → s ≡ emptied g
unfolding IsOut
emptied_at g t k s here l at = same_Some _ _ (sym at ∙ (ap (slice_get t.locks) (sym here) ∙ l.out))

-- ---- the lock tried

pub lock_is : (locks new : List (SlotState Inode)) (k h : ℕ) (s : SlotState Inode) (r : Option (GuardState Inode)) → slice_get locks k ≡ Some s → (new, r) ≡ lock_of locks k h
    → (new ≡ slice_set locks k (taken s h)) × (r ≡ guard_of s h)
unfolding lock_of
lock_is locks new k h s r e gives =
    let Pair : Type 0 = List (SlotState Inode) × Option (GuardState Inode) in
    let all = gives ∙ ap (lock_row_at locks k h) e in
    (ap (λ (p : Pair). p.0) all, ap (λ (p : Pair). p.1) all)

taken_fits : (k h : ℕ) (e : Entry) (n : ℕ) (inside : Option Inode) (holder : Option ℕ) → 0 < e.references → PlaceFits k e (record { number = n; inside = inside; holder = holder })
    → PlaceFits k e (taken (record { number = n; inside = inside; holder = holder }) h)
taken_fits k h e n None holder lt fits = (fits.0, fits.1)
taken_fits k h e n (Some v) holder lt fits = (fits.0, (refl, lt))

pub lock_good : (h n k : ℕ) (entries : List Entry) (locks new : List (SlotState Inode)) (r : Option (GuardState Inode)) → Found n entries k → IsSoundInodes entries locks
    → (new, r) ≡ lock_of locks k h → IsSoundInodes entries new
lock_good h n k entries locks new r f sound gives =
    let at = slot_at entries locks k f.entry sound f.there in
    let s = at.0 in
    let is = lock_is locks new k h s r at.1 gives in
    let fits = taken_fits k h f.entry s.number s.inside s.holder f.referenced at.2 in
    record {
      places = sound.places;
      same = ap (λ (l : List (SlotState Inode)). length l) is.0 ∙ (length-set locks k (taken s h) ∙ sound.same);
      placed = subst (λ (l : List (SlotState Inode)). AllPlaced entries l) (sym is.0) (all_placed_set entries locks k f.entry (taken s h) f.there fits sound.placed);
      once = sound.once;
    }

still_slot : (h n : ℕ) (inside : Option Inode) (holder : Option ℕ) → guard_of (record { number = n; inside = inside; holder = holder }) h ≡ None
    → ◌≡◌ {A = SlotState Inode} (taken (record { number = n; inside = inside; holder = holder }) h) (record { number = n; inside = inside; holder = holder })
still_slot h n None holder e = refl
still_slot h n (Some v) holder e = absurd (none-some _ (sym e))

-- where it is out nothing changes
pub lock_still : (h n k : ℕ) (entries : List Entry) (locks new : List (SlotState Inode)) → Found n entries k → IsSoundInodes entries locks
    → (r : Option (GuardState Inode)) → (new, r) ≡ lock_of locks k h → r ≡ None → new ≡ locks
lock_still h n k entries locks new f sound r gives none =
    let at = slot_at entries locks k f.entry sound f.there in
    let s = at.0 in
    let is = lock_is locks new k h s r at.1 gives in
    is.0 ∙ (ap (slice_set locks k) (still_slot h s.number s.inside s.holder (sym is.1 ∙ none)) ∙ set_same locks k s at.1)

own_slot : (h n k : ℕ) (t : TablesState) (f : Found n t.entries k) (m : ℕ) (inside : Option Inode) (holder : Option ℕ) → slice_get t.locks k ≡ Some (record { number = m; inside = inside; holder = holder })
    → PlaceFits k f.entry (record { number = m; inside = inside; holder = holder })
    → IfSome (guard_of (record { number = m; inside = inside; holder = holder }) h)
    (λ (g : GuardState Inode). (g.hart ≡ h) × (g.value.number ≡ n) × IsLocked g (record t { locks = slice_set t.locks k (taken (record { number = m; inside = inside; holder = holder }) h) }))
unfolding IsOut
own_slot h n k t f m None holder at fits = tt
own_slot h n k t f m (Some v) holder at fits =
    let new : SlotState Inode = record { number = m; inside = None; holder = Some h } in (
      refl,
      fits.1.1 f.referenced ∙ f.number,
      record {
        out = ap (slice_get (slice_set t.locks k new)) fits.0 ∙ slice_get-set_same t.locks k new (slice_get_within t.locks k _ at);
        entry = f.entry;
        there = ap (slice_get t.entries) fits.0 ∙ f.there;
        number = sym (fits.1.1 f.referenced);
        referenced = f.referenced;
      },
    )

pub lock_own : (h n k : ℕ) (t : TablesState) (new : List (SlotState Inode)) (r : Option (GuardState Inode)) → Found n t.entries k → IsSoundInodes t.entries t.locks → (new, r) ≡ lock_of t.locks k h
    → IfSome r (λ g. (g.hart ≡ h) × (g.value.number ≡ n) × IsLocked g (record t { locks = new }))
lock_own h n k t new r f sound gives =
    let at = slot_at t.entries t.locks k f.entry sound f.there in
    let s = at.0 in
    let is = lock_is t.locks new k h s r at.1 gives in
    let all = own_slot h n k t f s.number s.inside s.holder at.1 at.2 in
    let P : List (SlotState Inode) → Option (GuardState Inode) → Type 0 = λ l o. IfSome o (λ g. (g.hart ≡ h) × (g.value.number ≡ n) × IsLocked g (record t { locks = l })) in
    subst (λ l. P l r) (sym is.0) (subst (λ o. P (slice_set t.locks k (taken s h)) o) (sym is.1) all)

-- ---- the lock given back

pub unlock_ran : (h : ℕ) (g : GuardState Inode) (t : TablesState) (new : List (SlotState Inode)) → IsSoundInodes t.entries t.locks → IsLocked g t → new ≡ unlocked t.locks g
    → ◌≡◌ {A = TablesState} (record t { locks = new }) (unlock_inode h g.value None t)
unfolding unlock_inode unlocked
unlock_ran h g t new sound l is =
    ap (λ (z : List (SlotState Inode)). record t { locks = z }) is ∙ ap (unlock_at g.value t) (sym (placed g.value.number t.entries g.number sound.once (found_locked g t l)))

pub unlock_good : (g : GuardState Inode) (t : TablesState) (new : List (SlotState Inode)) → IsSoundInodes t.entries t.locks → IsLocked g t → new ≡ unlocked t.locks g → IsSoundInodes t.entries new
unfolding unlocked
unlock_good g t new sound l is =
    let back : SlotState Inode = filled g.number g.value in
    record {
      places = sound.places;
      same = ap (λ (z : List (SlotState Inode)). length z) is ∙ (length-set t.locks g.number back ∙ sound.same);
      placed = subst (λ (z : List (SlotState Inode)). AllPlaced t.entries z) (sym is)
          (all_placed_set t.entries t.locks g.number l.entry back l.there (refl, (refl, λ _. sym l.number)) sound.placed);
      once = sound.once;
    }

-- each lock has its place as number
pub numbered : (entries : List Entry) (locks : List (SlotState Inode)) → IsSoundInodes entries locks → IsNumbered locks
unfolding IsNumbered AllPlaced
numbered entries locks sound k s there =
    let within : k < length entries = let a = slice_get_within locks k s there in let b = sound.places in let c = sound.same in omega (arith, a, b, c) in
    let d : Entry = record { number = 0; references = 0 } in
    (sound.placed k (get_or entries k d) s (slice_get-get_or entries k d within) there).0

-- a lock that is out stays so
pub lock_leaves : (h k : ℕ) (t : TablesState) (new : List (SlotState Inode)) (e : Entry) (r : Option (GuardState Inode)) → IsSoundInodes t.entries t.locks → slice_get t.entries k ≡ Some e
    → (new, r) ≡ lock_of t.locks k h → LeavesLocked t (record t { locks = new })
unfolding IsOut
lock_leaves h k t new e r sound there gives g l =
    let at = slot_at t.entries t.locks k e sound there in
    let s = at.0 in
    let is = lock_is t.locks new k h s r at.1 gives in
    let out : slice_get (slice_set t.locks k (taken s h)) g.number ≡ Some (emptied g) =
    elim (cases_eq g.number k) [
      | inl here ↦
          ap (slice_get (slice_set t.locks k (taken s h))) here ∙ slice_get-set_same t.locks k (taken s h) (slice_get_within t.locks k s at.1)
          ∙ ap (λ (v : SlotState Inode). Some (taken v h)) (emptied_at g t k s here l at.1)
      | inr other ↦ slice_get-set_other t.locks k g.number (taken s h) other ∙ l.out
    ] in
    record { out = ap (λ (z : List (SlotState Inode)). slice_get z g.number) is.0 ∙ out; entry = l.entry; there = l.there; number = l.number; referenced = l.referenced }

-- one that was had was out in nobody's hand
pub lock_apart : (h n k : ℕ) (t : TablesState) (new : List (SlotState Inode)) (r : Option (GuardState Inode)) → Found n t.entries k → IsSoundInodes t.entries t.locks → (new, r) ≡ lock_of t.locks k h
    → IfSome r (λ _. (g : GuardState Inode) → IsLocked g t → g.value.number ≢ n)
unfolding IsOnce
lock_apart h n k t new None f sound gives = tt
lock_apart h n k t new (Some guard) f sound gives = λ g l same.
    let at = slot_at t.entries t.locks k f.entry sound f.there in
    let is = lock_is t.locks new k h at.0 (Some guard) at.1 gives in
    let here : g.number ≡ k = sound.once g.number k l.entry f.entry l.there f.there l.referenced f.referenced (l.number ∙ (same ∙ sym f.number)) in
    none-some guard (sym (is.1 ∙ ap (λ (v : SlotState Inode). guard_of v h) (emptied_at g t k at.0 here l at.1)))

-- nobody has a lock that was given back
pub unlock_frees : (g : GuardState Inode) (t : TablesState) (new : List (SlotState Inode)) → IsSoundInodes t.entries t.locks → IsLocked g t → new ≡ unlocked t.locks g
    → holder_of g.value.number (record t { locks = new }) ≡ None
unfolding unlocked IsOut
unlock_frees g t new sound l is =
    let back : SlotState Inode = filled g.number g.value in
    let there : slice_get (slice_set t.locks g.number back) g.number ≡ Some back = slice_get-set_same t.locks g.number back (slice_get_within t.locks g.number _ l.out) in
    ap (holder_in new) (placed g.value.number t.entries g.number sound.once (found_locked g t l))
    ∙ (ap (λ (z : List (SlotState Inode)). holder_at (slice_get z g.number)) is ∙ ap holder_at there)

-- what is out of other inodes stays so when a lock is given back
pub unlock_leaves : (g : GuardState Inode) (t : TablesState) (new : List (SlotState Inode)) → IsLocked g t → new ≡ unlocked t.locks g
    → (o : GuardState Inode) → o.value.number ≢ g.value.number → IsLocked o t → IsLocked o (record t { locks = new })
unfolding unlocked IsOut
unlock_leaves g t new l is o ne m =
    let out : slice_get (slice_set t.locks g.number (filled g.number g.value)) o.number ≡ Some (emptied o) =
    elim (cases_eq o.number g.number) [
      | inl here ↦
          let entries : m.entry ≡ l.entry = same_Some _ _ (sym m.there ∙ (ap (slice_get t.entries) here ∙ l.there)) in
          absurd (ne (sym m.number ∙ (ap (λ (v : Entry). v.number) entries ∙ l.number)))
      | inr other ↦ slice_get-set_other t.locks g.number o.number (filled g.number g.value) other ∙ m.out
    ] in
    record { out = ap (λ (z : List (SlotState Inode)). slice_get z o.number) is ∙ out; entry = m.entry; there = m.there; number = m.number; referenced = m.referenced }

-- the row after a lock that was had
pub lock_had : (h k : ℕ) (entries : List Entry) (locks new : List (SlotState Inode)) (e : Entry) (r : Option (GuardState Inode)) → IsSoundInodes entries locks → slice_get entries k ≡ Some e
    → (new, r) ≡ lock_of locks k h → new ≡ change_at k (λ s. taken s h) locks
lock_had h k entries locks new e r sound there gives =
    let at = slot_at entries locks k e sound there in
    (lock_is locks new k h at.0 r at.1 gives).0 ∙ sym (change_set k (λ s. taken s h) locks at.0 at.1)

-- the same of any place
pub lock_still_at : (h k : ℕ) (entries : List Entry) (locks new : List (SlotState Inode)) (e : Entry) → slice_get entries k ≡ Some e → IsSoundInodes entries locks
    → (r : Option (GuardState Inode)) → (new, r) ≡ lock_of locks k h → r ≡ None → new ≡ locks
lock_still_at h k entries locks new e there sound r gives none =
    let at = slot_at entries locks k e sound there in
    let s = at.0 in
    let is = lock_is locks new k h s r at.1 gives in
    is.0 ∙ (ap (slice_set locks k) (still_slot h s.number s.inside s.holder (sym is.1 ∙ none)) ∙ set_same locks k s at.1)

-- a guard that was had is out
pub had_out : (h k : ℕ) (entries : List Entry) (locks new : List (SlotState Inode)) (g : GuardState Inode) → IsSoundInodes entries locks → (new, Some g) ≡ lock_of locks k h → IsOut new g
had_out h k entries locks new g sound gives =
    let Pair : Type 0 = List (SlotState Inode) × Option (GuardState Inode) in
    let laws = lock_laws locks k h in
    let out = laws.out (numbered entries locks sound) g (sym (ap (λ (p : Pair). p.1) gives)) in
    subst (λ (z : List (SlotState Inode)). IsOut z g) (sym (ap (λ (p : Pair). p.0) gives)) out.2

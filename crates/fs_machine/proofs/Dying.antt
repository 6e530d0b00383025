-- The last reference to a dead inode.
use Rattle.fs_machine.proofs.Vocabulary.{◌≡◌, ℕ, ◌==◌, if◌then◌else◌, List, Bool, true, false, refl, sym, ◌∙◌, ap, arith, Option, Some, None, slice_get, slice_set, IsSome, is_some, nat_tests, set-set, same_Some, none-some, Loaded, SlotState, GuardState, guard_of, taken, filled, lock_of, unlocked, set_same, Ran, Entry, Inode, change_at, TablesState, place_of, dying, dead_in, dead_of, drop_inode, drop_at, drop_dying, drop_walked, walked_at, walked_dying, uncounted_at, Counts, Keeps, Dies, is_positive, freed_at, drop_freed, IsSoundInodes, PlaceFits}
use Rattle.fs_machine.proofs.Locking.{slot_at, lock_is}

same_one : (r : ℕ) → r ≡ 1 → (r == 1) ≡ true
same_one r e = grind (arith, nat_tests)

-- at a place with one reference
there_dying : (entries : List Entry) (locks : List (SlotState Inode)) (k : ℕ) (e : Entry) (s : SlotState Inode) → slice_get entries k ≡ Some e → e.references ≡ 1 → slice_get locks k ≡ Some s
    → dying (slice_get entries k) (slice_get locks k) ≡ dead_in s.inside
there_dying entries locks k e s ee one es =
    ap (λ o. dying o (slice_get locks k)) ee ∙ (ap (dying (Some e)) es ∙ ap (λ (b : Bool). if b then dead_in s.inside else None) (same_one e.references one))

pub is_dead : (o : Option Loaded) → IsSome (dead_of o) → (dead_of o ≡ o) × IsSome o
is_dead None some = absurd (cc some)
is_dead (Some d) some = by_test (is_positive d.inode.nlink) refl some
  where
    by_test : (b : Bool) → is_positive d.inode.nlink ≡ b → IsSome (if b then None else Some d) → ((if is_positive d.inode.nlink then None else Some d) ≡ Some d) × IsSome (Some d)
    by_test true e z = absurd (cc z)
    by_test false e z = (ap (λ (b : Bool). if b then None else Some d) e, refl)

isnt_dead : (o : Option Loaded) → (IsSome (dead_of o) → ⊥) → dead_of o ≡ None
isnt_dead o isnt = all (dead_of o) isnt
  where
    all : (p : Option Loaded) → (IsSome p → ⊥) → p ≡ None
    all None f = refl
    all (Some d) f = absurd (f refl)

module _ (h k : ℕ) (entries : List Entry) (locks new : List (SlotState Inode)) (e : Entry) (sound : IsSoundInodes entries locks) (ee : slice_get entries k ≡ Some e) where
  in_slot : (n : ℕ) (inside : Option Inode) (holder : Option ℕ) (g : GuardState Inode) → Some g ≡ guard_of (record { number = n; inside = inside; holder = holder }) h → (inside ≡ Some g.value) × (g.number ≡ n)
  in_slot n None holder g is = absurd (none-some g (sym is))
  in_slot n (Some v) holder g is =
      let same = same_Some _ _ is in
      (ap (λ (z : GuardState Inode). Some z.value) (sym same), ap (λ (z : GuardState Inode). z.number) same)

  same_slot : (n : ℕ) (inside : Option Inode) (holder : Option ℕ) (v : Inode) → inside ≡ Some v → PlaceFits k e (record { number = n; inside = inside; holder = holder })
      → ◌≡◌ {A = SlotState Inode} (filled k v) (record { number = n; inside = inside; holder = holder })
  same_slot n None holder v is fits = absurd (none-some v is)
  same_slot n (Some w) holder v is fits = λ i. record { number = sym fits.0 i; inside = sym is i; holder = sym fits.1.0 i }

  -- taken and given back as it was
  pub had_back : (g : GuardState Inode) (after : List (SlotState Inode)) → (new, Some g) ≡ lock_of locks k h → after ≡ unlocked new g → after ≡ locks
  unfolding unlocked
  had_back g after gives back =
      let at = slot_at entries locks k e sound ee in
      let s = at.0 in
      let is = lock_is locks new k h s (Some g) at.1 gives in
      let had = in_slot s.number s.inside s.holder g is.1 in
      let number : g.number ≡ k = had.1 ∙ at.2.0 in
      back ∙ (ap (λ (j : ℕ). slice_set new j (filled j g.value)) number
      ∙ (ap (λ (l : List (SlotState Inode)). slice_set l k (filled k g.value)) is.0
      ∙ (set-set locks k (taken s h) (filled k g.value)
      ∙ (ap (slice_set locks k) (same_slot s.number s.inside s.holder g.value had.0 at.2) ∙ set_same locks k s at.1))))

  module _ (one : e.references ≡ 1) where
    out_slot : (n : ℕ) (inside : Option Inode) (holder : Option ℕ) → None ≡ guard_of (record { number = n; inside = inside; holder = holder }) h → inside ≡ None
    out_slot n None holder is = refl
    out_slot n (Some v) holder is = absurd (none-some _ is)

    -- its lock is out
    pub out_alive : (new, None) ≡ lock_of locks k h → dying (slice_get entries k) (slice_get locks k) ≡ None
    out_alive gives =
        let at = slot_at entries locks k e sound ee in
        let s = at.0 in
        there_dying entries locks k e s ee one at.1 ∙ ap dead_in (out_slot s.number s.inside s.holder (lock_is locks new k h s None at.1 gives).1)

    pub had_dying : (g : GuardState Inode) → (new, Some g) ≡ lock_of locks k h → dying (slice_get entries k) (slice_get locks k) ≡ dead_of g.value.content
    had_dying g gives =
        let at = slot_at entries locks k e sound ee in
        let s = at.0 in
        there_dying entries locks k e s ee one at.1 ∙ ap dead_in (in_slot s.number s.inside s.holder g (lock_is locks new k h s (Some g) at.1 gives).1).0

    pub had_dead : (g : GuardState Inode) → (new, Some g) ≡ lock_of locks k h → IsSome (dead_of g.value.content) → dying (slice_get entries k) (slice_get locks k) ≡ g.value.content
    had_dead g gives some = had_dying g gives ∙ (is_dead g.value.content some).0

    pub had_alive : (g : GuardState Inode) → (new, Some g) ≡ lock_of locks k h → (IsSome (dead_of g.value.content) → ⊥) → dying (slice_get entries k) (slice_get locks k) ≡ None
    had_alive g gives isnt = had_dying g gives ∙ isnt_dead g.value.content isnt

-- ---- what is answered

pub drop_counted : (h n k : ℕ) (t : TablesState) → place_of n t.entries ≡ Some k → dying (slice_get t.entries k) (slice_get t.locks k) ≡ None → drop_inode h n t ≡ Ran Counts (uncounted_at k t)
unfolding drop_inode
drop_counted h n k t e alive = ap (drop_at h n t) e ∙ ap (drop_dying h n k t) alive

pub drop_dies : (h n k : ℕ) (t : TablesState) (new : List (SlotState Inode)) (o : Option Loaded) → place_of n t.entries ≡ Some k → dying (slice_get t.entries k) (slice_get t.locks k) ≡ o → IsSome o
    → new ≡ change_at k (λ s. taken s h) t.locks → drop_inode h n t ≡ Ran (Dies n o) (record t { locks = new })
unfolding drop_inode
drop_dies h n k t new None e dies some is = absurd (cc some)
drop_dies h n k t new (Some d) e dies some is =
    ap (drop_at h n t) e ∙ (ap (drop_dying h n k t) dies ∙ ap (λ (l : List (SlotState Inode)). Ran (Dies n (Some d)) (record t { locks = l })) (sym is))

pub drop_nowhere : (h n : ℕ) (t : TablesState) → place_of n t.entries ≡ None → drop_inode h n t ≡ Ran Counts t
unfolding drop_inode
drop_nowhere h n t e = ap (drop_at h n t) e

-- ---- within a walk

pub walked_nowhere : (n : ℕ) (t : TablesState) → place_of n t.entries ≡ None → drop_walked n t ≡ Ran Counts t
unfolding drop_walked
walked_nowhere n t e = ap (walked_at t) e

pub walked_counted : (n k : ℕ) (t : TablesState) → place_of n t.entries ≡ Some k → false ≡ is_some (dying (slice_get t.entries k) (slice_get t.locks k)) → drop_walked n t ≡ Ran Counts (uncounted_at k t)
unfolding drop_walked
walked_counted n k t e isnt = ap (walked_at t) e ∙ at (dying (slice_get t.entries k) (slice_get t.locks k)) isnt
  where
    at : (o : Option Loaded) → false ≡ is_some o → walked_dying k t o ≡ Ran Counts (uncounted_at k t)
    at None isnt = refl
    at (Some d) isnt = absurd (cc isnt)

pub walked_kept : (n k : ℕ) (t : TablesState) → place_of n t.entries ≡ Some k → true ≡ is_some (dying (slice_get t.entries k) (slice_get t.locks k)) → drop_walked n t ≡ Ran Keeps t
unfolding drop_walked
walked_kept n k t e is = ap (walked_at t) e ∙ at (dying (slice_get t.entries k) (slice_get t.locks k)) is
  where
    at : (o : Option Loaded) → true ≡ is_some o → walked_dying k t o ≡ Ran Keeps t
    at None is = absurd (cc is)
    at (Some d) is = refl

-- ---- after the inode was freed

pub freed_nowhere : (n : ℕ) (t : TablesState) → place_of n t.entries ≡ None → drop_freed n t ≡ Ran Counts t
unfolding drop_freed
freed_nowhere n t e = ap (freed_at t) e

pub freed_counted : (n k : ℕ) (t : TablesState) → place_of n t.entries ≡ Some k → drop_freed n t ≡ Ran Counts (uncounted_at k t)
unfolding drop_freed
freed_counted n k t e = ap (freed_at t) e

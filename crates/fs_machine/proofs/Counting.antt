-- What counting a reference makes of the inodes in memory.
use Rattle.fs_machine.proofs.Vocabulary.{◌≡◌, ◌≢◌, ◌⊎◌, ℕ, ◌-◌, ◌<◌, List, length, length-set, refl, sym, ◌∙◌, ap, subst, arith, Option, Some, None, inl, inr, slice_get, slice_set, cases_eq, slice_get_within, same_Some, none-some, SlotState, GuardState, emptied, IsOut, slice_get-set_same, slice_get-set_other, Entry, Inode, TablesState, place_of, references_of, references_in, references_at, lock_holder as holder_of, holder_in, holder_at, one_more, one_less, change_at, IsLocked, LeavesLocked, IsSoundInodes, AllPlaced, PlaceFits, IsOnce}
use Rattle.fs_machine.proofs.Places.{Found, change_set}

-- what is at a place of a list that was written
pub at_set : {X : Type 0} (xs : List X) (k j : ℕ) (y x : X) → slice_get (slice_set xs k y) j ≡ Some x → ((j ≡ k) × (x ≡ y)) ⊎ ((j ≢ k) × (slice_get xs j ≡ Some x))
at_set {X} xs k j y x e =
    elim (cases_eq j k) [
      | inl same ↦ inl (same, here same)
      | inr other ↦ inr (other, sym (slice_get-set_other xs k j y other) ∙ e)
    ]
  where
    here : j ≡ k → x ≡ y
    here same =
        let e' : slice_get (slice_set xs k y) k ≡ Some x = subst (λ i. slice_get (slice_set xs k y) i ≡ Some x) same e in
        let within : k < length xs = subst (λ (m : ℕ). k < m) (length-set xs k y) (slice_get_within (slice_set xs k y) k x e') in
        same_Some _ _ (sym e' ∙ slice_get-set_same xs k y within)

-- a place's entry changed, if its inode is the same
pub entry_set : (entries : List Entry) (locks : List (SlotState Inode)) (k : ℕ) (e f : Entry) → slice_get entries k ≡ Some e → f.number ≡ e.number → (0 < f.references → 0 < e.references)
    → ((s : SlotState Inode) → slice_get locks k ≡ Some s → PlaceFits k e s → PlaceFits k f s)
    → IsSoundInodes entries locks → IsSoundInodes (slice_set entries k f) locks
unfolding AllPlaced IsOnce
entry_set entries locks k e f there same less fits sound =
    record {
      places = length-set entries k f ∙ sound.places;
      same = sound.same;
      placed = λ j g s eg es.
          elim (at_set entries k j f g eg) [
            | inl here ↦
                let es' : slice_get locks k ≡ Some s = subst (λ i. slice_get locks i ≡ Some s) here.0 es in
                let fit : PlaceFits k f s = fits s es' (sound.placed k e s there es') in
                subst (λ i. PlaceFits i g s) (sym here.0) (subst (λ (v : Entry). PlaceFits k v s) (sym here.1) fit)
            | inr other ↦ sound.placed j g s other.1 es
          ];
      once = λ i j g h eg eh lg lh number.
          let mg = was i g eg lg in
          let mh = was j h eh lh in
          sound.once i j mg.0 mh.0 mg.1 mh.1 mg.2 mh.2 (mg.3 ∙ (number ∙ sym mh.3));
    }
  where
    was : (i : ℕ) (g : Entry) → slice_get (slice_set entries k f) i ≡ Some g → 0 < g.references → (m : Entry) × (slice_get entries i ≡ Some m) × (0 < m.references) × (m.number ≡ g.number)
    was i g eg lg =
        elim (at_set entries k i f g eg) [
          | inl here ↦ (e, ap (slice_get entries) here.0 ∙ there, less (subst (λ (v : Entry). 0 < v.references) here.1 lg), sym same ∙ ap (λ (v : Entry). v.number) (sym here.1))
          | inr other ↦ (g, other.1, lg, refl)
        ]

more_fits : (k : ℕ) (e : Entry) (n : ℕ) (inside : Option Inode) (holder : Option ℕ) → 0 < e.references → PlaceFits k e (record { number = n; inside = inside; holder = holder })
    → PlaceFits k (one_more e) (record { number = n; inside = inside; holder = holder })
more_fits k e n None holder lt fits = (fits.0, (fits.1.0, omega arith))
more_fits k e n (Some v) holder lt fits = (fits.0, (fits.1.0, λ _. fits.1.1 lt))

pub counted_good : (n k : ℕ) (entries : List Entry) (locks : List (SlotState Inode)) → Found n entries k → IsSoundInodes entries locks → IsSoundInodes (change_at k one_more entries) locks
counted_good n k entries locks f sound =
    subst (λ (l : List Entry). IsSoundInodes l locks) (sym (change_set k one_more entries f.entry f.there))
    (entry_set entries locks k f.entry (one_more f.entry) f.there refl (λ _. f.referenced) (λ s es fit. more_fits k f.entry s.number s.inside s.holder f.referenced fit) sound)

-- the lock isn't out if the reference is the last one
less_fits : (k : ℕ) (e : Entry) (n : ℕ) (inside : Option Inode) (holder : Option ℕ) → 0 < e.references → (e.references ≡ 1 → holder ≡ None) → PlaceFits k e (record { number = n; inside = inside; holder = holder })
    → PlaceFits k (one_less e) (record { number = n; inside = inside; holder = holder })
less_fits k e n None (Some h) lt last fits = (fits.0, (fits.1.0, more))
  where
    more : 0 < e.references - 1
    more = elim (cases_eq e.references 1) [ inl one ↦ absurd (none-some h (sym (last one))) | inr ne ↦ let a = lt in let b = ne in omega (arith, a, b) ]
less_fits k e n None None lt last fits = absurd (cc fits.1.0)
less_fits k e n (Some v) holder lt last fits = (fits.0, (fits.1.0, λ l. fits.1.1 lt))

pub uncounted_good : (n k : ℕ) (entries : List Entry) (locks : List (SlotState Inode)) (f : Found n entries k) → ((s : SlotState Inode) → slice_get locks k ≡ Some s → f.entry.references ≡ 1 → s.holder ≡ None)
    → IsSoundInodes entries locks → IsSoundInodes (change_at k one_less entries) locks
uncounted_good n k entries locks f last sound =
    subst (λ (l : List Entry). IsSoundInodes l locks) (sym (change_set k one_less entries f.entry f.there))
    (entry_set entries locks k f.entry (one_less f.entry) f.there refl (λ _. f.referenced) (λ s es fit. less_fits k f.entry s.number s.inside s.holder f.referenced (last s es) fit) sound)

-- ---- what is out stays out

pub locked_entries : (t : TablesState) (k : ℕ) (e f : Entry) → slice_get t.entries k ≡ Some e → f.number ≡ e.number
    → ((g : GuardState Inode) → IsLocked g t → g.number ≡ k → 0 < f.references)
    → LeavesLocked t (record t { entries = slice_set t.entries k f })
locked_entries t k e f there same stays g l =
    elim (cases_eq g.number k) [
      | inl here ↦
          let is : l.entry ≡ e = same_Some _ _ (sym (subst (λ i. slice_get t.entries i ≡ Some l.entry) here l.there) ∙ there) in
          record {
            out = l.out;
            entry = f;
            there = ap (slice_get (slice_set t.entries k f)) here ∙ slice_get-set_same t.entries k f (slice_get_within t.entries k e there);
            number = same ∙ (ap (λ (v : Entry). v.number) (sym is) ∙ l.number);
            referenced = stays g l here;
          }
      | inr other ↦ record { out = l.out; entry = l.entry; there = slice_get-set_other t.entries k g.number f other ∙ l.there; number = l.number; referenced = l.referenced }
    ]

pub counted_locked : (n k : ℕ) (t : TablesState) → Found n t.entries k → LeavesLocked t (record t { entries = change_at k one_more t.entries })
counted_locked n k t f =
    subst (λ (l : List Entry). LeavesLocked t (record t { entries = l })) (sym (change_set k one_more t.entries f.entry f.there))
    (locked_entries t k f.entry (one_more f.entry) f.there refl (λ g l e. omega arith))

pub uncounted_locked : (n k : ℕ) (t : TablesState) (f : Found n t.entries k) → ((s : SlotState Inode) → slice_get t.locks k ≡ Some s → f.entry.references ≡ 1 → s.holder ≡ None)
    → LeavesLocked t (record t { entries = change_at k one_less t.entries })
unfolding IsOut
uncounted_locked n k t f last =
    subst (λ (l : List Entry). LeavesLocked t (record t { entries = l })) (sym (change_set k one_less t.entries f.entry f.there))
    (locked_entries t k f.entry (one_less f.entry) f.there refl stays)
  where
    stays : (g : GuardState Inode) → IsLocked g t → g.number ≡ k → 0 < f.entry.references - 1
    stays g l e =
        let out : slice_get t.locks k ≡ Some (emptied g) = subst (λ i. slice_get t.locks i ≡ Some (emptied g)) e l.out in
        elim (cases_eq f.entry.references 1) [
          | inl one ↦ absurd (none-some g.hart (sym (last (emptied g) out one)))
          | inr ne ↦ let a = f.referenced in let b = ne in omega (arith, a, b)
        ]

-- the count of references to an inode, at its place
pub references_there : (n k : ℕ) (t : TablesState) (f : Found n t.entries k) → place_of n t.entries ≡ Some k → references_of n t ≡ f.entry.references
references_there n k t f e = ap (references_in t.entries) e ∙ ap references_at f.there

pub holder_there : (n k : ℕ) (t : TablesState) (s : SlotState Inode) → place_of n t.entries ≡ Some k → slice_get t.locks k ≡ Some s → holder_of n t ≡ s.holder
holder_there n k t s e there = ap (holder_in t.locks) e ∙ ap holder_at there

-- nobody has the lock if the reference is the last one
pub last_free : (n k : ℕ) (t : TablesState) (f : Found n t.entries k) → place_of n t.entries ≡ Some k → (references_of n t ≡ 1 → holder_of n t ≡ None)
    → (s : SlotState Inode) → slice_get t.locks k ≡ Some s → f.entry.references ≡ 1 → s.holder ≡ None
last_free n k t f e last s there one = sym (holder_there n k t s e there) ∙ last (references_there n k t f e ∙ one)

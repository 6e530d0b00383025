-- References counted down.
use Rattle.inodes_on_blocks.proofs.Vocabulary.{◌≡◌, ◌≢◌, inl, inr, ℕ, ◌-◌, ◌<◌, ◌≤◌, ◌==◌, ◌&&◌, Bool, true, false, if◌then◌else◌, List, Option, Some, None, refl, sym, ◌∙◌, ap, subst, arith, slice_get, slice_set, is_some, IsSome, slice_get_within, same_Some, SlotState, taken, slice_get-set_same, put, eq_not, same_or, put_other, change_at, Inode, place_of, references_in, references_at, holder_in, TablesState, one_less, uncounted_at, dying, dead_in, dead_of, Counts, Stays as Keeps, Dies, IsSoundInodes, PlaceFits, InsideFits, found, placed, change_set, uncounted_good, at_set, drop_counted, drop_dies, walked_counted, walked_kept, counted_down, is_last, walk_down_if, down_if, reserved, PlacesShow, loaded_of, loaded_in, MayDie, load_after, WalksDropReferences, ReferencesAreDropped, Loaded}
use Rattle.fs_machine.specs.declared.entries.Entry.{Entry}
use Rattle.fs_machine.proofs.Places.{Found}
use Rattle.fs_machine.proofs.Locking.{slot_at}
use Rattle.fs_machine.proofs.Dying.{is_dead}
use Rattle.inode_machine.specs.World.{World}
use Rattle.inode_machine.specs.Exec as above
use Rattle.inodes_on_blocks.specs.ShownTables.{Shows}
use Rattle.inodes_on_blocks.proofs.Basics.{places_set, both_ran, place_there, slot_with, shown_locked, load_same}

module _ (h n k : ℕ) (t : TablesState) (w : World) (load : ℕ → Option Loaded) (shows : Shows t w load) (may : MayDie n w load) (e : place_of n t.entries ≡ Some k) where
  sound : IsSoundInodes t.entries t.locks
  sound = shows.sound.inodes

  abbrev f : Found n t.entries k
  f = found n t.entries k e

  count : w.refs n ≡ f.entry.references
  count = shows.places.counts n ∙ ap (references_in t.entries) e ∙ ap references_at f.there

  abbrev slot : (s : SlotState Inode) × (slice_get t.locks k ≡ Some s) × PlaceFits k f.entry s
  slot = slot_at t.entries t.locks k f.entry sound f.there

  -- its lock is free if the reference is the last one
  lone : (s : SlotState Inode) → slice_get t.locks k ≡ Some s → f.entry.references ≡ 1 → s.holder ≡ None
  lone s there one = sym (slot_with h n k t w load shows e s there).0 ∙ may.free (count ∙ one)

  -- ---- counted down

  abbrev new : Entry
  new = one_less f.entry

  changed : change_at k one_less t.entries ≡ slice_set t.entries k new
  changed = change_set k one_less t.entries f.entry f.there

  good : IsSoundInodes (change_at k one_less t.entries) t.locks
  good = uncounted_good n k t.entries t.locks f lone sound

  good_set : IsSoundInodes (slice_set t.entries k new) t.locks
  good_set = subst (λ (l : List Entry). IsSoundInodes l t.locks) changed good

  there_new : slice_get (slice_set t.entries k new) k ≡ Some new
  there_new = slice_get-set_same t.entries k new (slice_get_within t.entries k f.entry f.there)

  range_down : (m : ℕ) → 0 < put w.refs n (w.refs n - 1) m → (1 ≤ m) × (m < w.all.ninodes)
  range_down m lt = elim (same_or m n) [
    | inl q ↦ let c = count in let r = f.referenced in shows.range m (subst (λ (z : ℕ). 0 < w.refs z) (sym q) (omega (arith, c, r)))
    | inr ne ↦ shows.range m (subst (λ (z : ℕ). 0 < z) (put_other w.refs n (w.refs n - 1) m ne) lt)
  ]

  set_so : (d : Option Loaded) → references_in (slice_set t.entries k new) (place_of n (slice_set t.entries k new)) ≡ w.refs n - 1 → holder_in t.locks (place_of n (slice_set t.entries k new)) ≡ w.lock n
      → loaded_in t.locks (place_of n (slice_set t.entries k new)) ≡ d → PlacesShow (slice_set t.entries k new) t.locks (put w.refs n (w.refs n - 1)) w.lock (put load n d)
  set_so d refs lock is = places_set t.entries k n f.entry new f.there (λ _. f.number) (λ _. f.number) sound.once good_set.once t.locks t.locks (λ j ne. refl) w.refs w.lock load (w.refs n - 1) d shows.places refs lock is

  shown_with : (l : ℕ → Option Loaded) → PlacesShow (slice_set t.entries k new) t.locks (put w.refs n (w.refs n - 1)) w.lock l → Shows (uncounted_at k t) (counted_down h n w) l
  shown_with l places = record {
    sound = record { inodes = good; files = shows.sound.files; desks = shows.sound.desks };
    places = subst (λ (z : List Entry). PlacesShow z t.locks (put w.refs n (w.refs n - 1)) w.lock l) (sym changed) places;
    files = shows.files;
    desks = shows.desks;
    lenders = shows.lenders;
    range = range_down;
  }

  -- another reference is left
  shown_less : f.entry.references ≢ 1 → Shows (uncounted_at k t) (counted_down h n w) load
  shown_less ne =
      let r = f.referenced in
      let place : place_of n (slice_set t.entries k new) ≡ Some k = placed n (slice_set t.entries k new) k good_set.once (record { entry = new; there = there_new; number = f.number; referenced = omega (arith, ne, r) }) in
      shown_with load (load_same (slice_set t.entries k new) t.locks (put w.refs n (w.refs n - 1)) w.lock load n
      (set_so (load n)
      (ap (references_in (slice_set t.entries k new)) place ∙ ap references_at there_new ∙ ap (λ (z : ℕ). z - 1) (sym count))
      (ap (holder_in t.locks) place ∙ ap (holder_in t.locks) (sym e) ∙ sym (shows.places.holders n))
      (ap (loaded_in t.locks) place ∙ ap (loaded_in t.locks) (sym e) ∙ sym (shows.places.loads n))))

  -- none does
  shown_gone : f.entry.references ≡ 1 → Shows (uncounted_at k t) (counted_down h n w) (put load n None)
  shown_gone one =
      shown_with (put load n None)
      (set_so None
      (ap (references_in (slice_set t.entries k new)) nowhere ∙ let c = count in omega (arith, c, one))
      (ap (holder_in t.locks) nowhere ∙ sym (may.free (count ∙ one)))
      (ap (loaded_in t.locks) nowhere))
    where
      gone : (j : ℕ) → place_of n (slice_set t.entries k new) ≡ Some j → ⊥
      gone j q =
          let g = found n (slice_set t.entries k new) j q in
          let lt = g.referenced in
          elim (at_set t.entries k j new g.entry g.there) [
            | inl here ↦ (let z : g.entry.references ≡ f.entry.references - 1 = ap (λ (v : Entry). v.references) here.1 in omega (arith, z, one, lt))
            | inr other ↦ absurd (other.0 (same_Some j k (sym (placed n t.entries j sound.once (record { entry = g.entry; there = other.1; number = g.number; referenced = g.referenced })) ∙ e)))
          ]

      nowhere : place_of n (slice_set t.entries k new) ≡ None
      nowhere = at (place_of n (slice_set t.entries k new)) refl
        where
          at : (o : Option ℕ) → place_of n (slice_set t.entries k new) ≡ o → place_of n (slice_set t.entries k new) ≡ None
          at None q = q
          at (Some j) q = absurd (gone j q)

  -- ---- which it is

  -- a drop that kills: the last one, of an inode that is loaded and has no links
  pub by_death : (P : Type 0)
      → (dying (slice_get t.entries k) (slice_get t.locks k) ≡ None → is_last w n ≡ false → Shows (uncounted_at k t) (counted_down h n w) (load_after n (w.refs n) load Counts) → P)
      → (dying (slice_get t.entries k) (slice_get t.locks k) ≡ load n → IsSome (load n) → is_last w n ≡ true → (s : SlotState Inode) → slice_get t.locks k ≡ Some s → s.holder ≡ None → s.inside ≢ None → P) → P
  by_death P counts dies = elim (same_or f.entry.references 1) [ inl one ↦ last one slot.0.inside refl slot.2.1 | inr ne ↦ more ne ]
    where
      s : SlotState Inode
      s = slot.0

      is_dying : dying (slice_get t.entries k) (slice_get t.locks k) ≡ (if f.entry.references == 1 then dead_in s.inside else None)
      is_dying = (λ i. dying (f.there i) (slice_get t.locks k)) ∙ (λ i. dying (Some f.entry) (slot.1 i))

      more : f.entry.references ≢ 1 → P
      more ne =
          counts (is_dying ∙ ap (λ (b : Bool). if b then dead_in s.inside else None) (eq_not f.entry.references 1 ne))
          (ap (λ (b : Bool). b && above.is_dead (w.disk n)) (ap (λ (z : ℕ). z == 1) count ∙ eq_not f.entry.references 1 ne))
          (subst (λ (b : Bool). Shows (uncounted_at k t) (counted_down h n w) (if b then put load n None else load)) (sym (ap (λ (z : ℕ). z == 1) count ∙ eq_not f.entry.references 1 ne)) (shown_less ne))

      is_one : f.entry.references ≡ 1 → (w.refs n == 1) ≡ true
      is_one one = ap (λ (z : ℕ). z == 1) (count ∙ one)

      last_is : f.entry.references ≡ 1 → is_last w n ≡ is_some (dead_of (load n))
      last_is one = ap (λ (b : Bool). b && above.is_dead (w.disk n)) (is_one one) ∙ sym (may.alike (count ∙ one))

      by_dead : f.entry.references ≡ 1 → (v : Inode) → s.inside ≡ Some v → (o : Option Loaded) → dead_of (load n) ≡ o → P
      by_dead one v q None z =
          counts (is_dying ∙ (λ i. if ap (λ (x : ℕ). x == 1) one i then dead_in (q i) else None) ∙ ap dead_of (sym (load_is q)) ∙ z) (last_is one ∙ ap is_some z)
          (subst (λ (b : Bool). Shows (uncounted_at k t) (counted_down h n w) (if b then put load n None else load)) (sym (is_one one)) (shown_gone one))
        where
          load_is : s.inside ≡ Some v → load n ≡ v.content
          load_is q = (slot_with h n k t w load shows e s slot.1).1 ∙ ap loaded_of q
      by_dead one v q (Some d) z =
          let some : IsSome (dead_of (load n)) = ap is_some z in
          let both = is_dead (load n) some in
          dies (is_dying ∙ (λ i. if ap (λ (x : ℕ). x == 1) one i then dead_in (q i) else None) ∙ ap dead_of (sym (load_is q)) ∙ both.0) both.1 (last_is one ∙ ap is_some z) s slot.1 (lone s slot.1 one) (λ y. absurd (let c : None ≡ Some v = sym y ∙ q in cc))
        where
          load_is : s.inside ≡ Some v → load n ≡ v.content
          load_is q = (slot_with h n k t w load shows e s slot.1).1 ∙ ap loaded_of q

      last : f.entry.references ≡ 1 → (o : Option Inode) → s.inside ≡ o → InsideFits f.entry s.holder o → P
      last one None q fits = absurd (let out : IsSome {T = ℕ} None = subst (λ (x : Option ℕ). IsSome x) (lone s slot.1 one) fits.0 in cc out)
      last one (Some v) q fits = by_dead one v q (dead_of (load n)) refl

pub walks_drop_references : WalksDropReferences
walks_drop_references version h n t w load shows may =
    let p = place_there n t w load shows may.some in
    let k = p.0 in
    by_death h n k t w load shows may p.1 _
    (λ none last after. both_ran _ _ _ _ Counts false (uncounted_at k t) (counted_down h n w) (walked_counted n k t p.1 (sym (ap is_some none))) (ap (walk_down_if h n w) last) refl after)
    (λ is some last s there free full. both_ran _ _ _ _ Keeps true t (reserved h n w) (walked_kept n k t p.1 (sym (ap is_some is ∙ some))) (ap (walk_down_if h n w) last) refl
    (record { sound = shows.sound; places = shows.places; files = shows.files; desks = shows.desks; lenders = shows.lenders; range = shows.range }))

pub references_are_dropped : ReferencesAreDropped
references_are_dropped version h n t w load shows may =
    let p = place_there n t w load shows may.some in
    let k = p.0 in
    by_death h n k t w load shows may p.1 _
    (λ none last after. both_ran _ _ _ _ Counts false (uncounted_at k t) (counted_down h n w) (drop_counted h n k t p.1 none) (ap (down_if h n w) last) refl after)
    (λ is some last s there free full.
    let x = shown_locked h n k t w load shows p.1 s there free full in
    both_ran _ _ _ _ (Dies n (load n)) true (record t { locks = slice_set t.locks k (taken s h) }) (record (reserved h n w) { lock = put w.lock n (Some h) })
    (drop_dies h n k t (slice_set t.locks k (taken s h)) (load n) p.1 is some (sym (change_set k (λ (z : SlotState Inode). taken z h) t.locks s there)))
    (ap (down_if h n w) last) refl (record { sound = x.sound; places = x.places; files = x.files; desks = x.desks; lenders = x.lenders; range = x.range }))

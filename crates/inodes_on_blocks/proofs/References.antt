-- References counted up and down.
use Rattle.inodes_on_blocks.proofs.Vocabulary.{◌≡◌, inl, inr, ℕ, ◌+◌, ◌<◌, ◌≤◌, ◌||◌, nat_lt, Bool, true, false, List, length, Option, Some, None, refl, sym, ◌∙◌, ap, subst, arith, slice_get, slice_set, position, is_some, nat_tests, slice_get_within, SlotState, filled, slice_get-set_same, slice_get-set_other, Ran, put, same_or, put_same, put_other, change_at, Inode, TablesState, place_of, references_in, references_at, holder_in, holder_at, is_unused, up_inode, up_directory, directory_of, counted_at, begun_at, IsSoundInodes, found, placed, change_set, counted_good, free, begun_good, up_counted, up_begun, up_full, has_place, referenced, counted_up, up_if, start_if, start_number, PlacesShow, loaded_in, loaded_at, TablesCountReferences, StartsAreCounted, DirectoriesAreStarts, Loaded}
use Rattle.fs_machine.specs.declared.entries.Entry.{Entry}
use Rattle.fs_machine.specs.Tables.{one_more}
use Rattle.fs_machine.proofs.Places.{Found}
use Rattle.fs_machine.proofs.Beginning.{Free}
use Rattle.inode_machine.specs.World.{World}
use Rattle.inode_machine.specs.Exec as above
use Rattle.inodes_on_blocks.specs.ShownTables.{Shows}
use Rattle.inodes_on_blocks.proofs.Places.{places_set}
use Rattle.inodes_on_blocks.proofs.Counts.{room_is}
use Rattle.inodes_on_blocks.proofs.Locks.{both_ran}

-- what is loaded of an inode was so before
pub load_same : (entries : List Entry) (locks : List (SlotState Inode)) (refs : ℕ → ℕ) (lock : ℕ → Option ℕ) (load : ℕ → Option Loaded) (n : ℕ) → PlacesShow entries locks refs lock (put load n (load n)) → PlacesShow entries locks refs lock load
load_same entries locks refs lock load n shows = record {
  counts = shows.counts;
  holders = shows.holders;
  loads = λ m. elim (same_or m n) [
    | inl q ↦ sym (ap (put load n (load n)) q ∙ put_same load n (load n) ∙ ap load (sym q)) ∙ shows.loads m
    | inr ne ↦ sym (put_other load n (load n) m ne) ∙ shows.loads m
  ];
}

yes : (a b : ℕ) → a < b → nat_lt a b ≡ true
yes a b lt = grind (arith, nat_tests)

module _ (h n : ℕ) (t : TablesState) (w : World) (load : ℕ → Option Loaded) (shows : Shows t w load) where
  sound : IsSoundInodes t.entries t.locks
  sound = shows.sound.inodes

  -- a referenced place's inode is one
  below : (k : ℕ) (e : Entry) → slice_get t.entries k ≡ Some e → 0 < e.references → e.number < w.all.ninodes
  below k e there lt =
      let p = placed e.number t.entries k sound.once (record { entry = e; there = there; number = refl; referenced = lt }) in
      let c : w.refs e.number ≡ e.references = shows.places.counts e.number ∙ ap (references_in t.entries) p ∙ ap references_at there in
      (shows.range e.number (omega (arith, c, lt))).1

  -- ---- up

  module _ (low : 1 ≤ n) (size : n < w.all.ninodes) where
    range_up : (m : ℕ) → 0 < put w.refs n (w.refs n + 1) m → (1 ≤ m) × (m < w.all.ninodes)
    range_up m lt = elim (same_or m n) [
      | inl q ↦ (subst (λ (z : ℕ). 1 ≤ z) (sym q) low, subst (λ (z : ℕ). z < w.all.ninodes) (sym q) size)
      | inr ne ↦ shows.range m (subst (λ (z : ℕ). 0 < z) (put_other w.refs n (w.refs n + 1) m ne) lt)
    ]

    pub shown_counted : (k : ℕ) → place_of n t.entries ≡ Some k → Shows (counted_at k t) (counted_up h n w) load
    shown_counted k e = record {
      sound = record { inodes = good; files = shows.sound.files; desks = shows.sound.desks };
      places = subst (λ (l : List Entry). PlacesShow l t.locks (put w.refs n (w.refs n + 1)) w.lock load) (sym changed) (load_same (slice_set t.entries k new) t.locks (put w.refs n (w.refs n + 1)) w.lock load n set_so);
      files = shows.files;
      desks = shows.desks;
      lenders = shows.lenders;
      range = range_up;
    }
      where
        f : Found n t.entries k
        f = found n t.entries k e

        new : Entry
        new = one_more f.entry

        changed : change_at k one_more t.entries ≡ slice_set t.entries k new
        changed = change_set k one_more t.entries f.entry f.there

        good : IsSoundInodes (change_at k one_more t.entries) t.locks
        good = counted_good n k t.entries t.locks f sound

        good_set : IsSoundInodes (slice_set t.entries k new) t.locks
        good_set = subst (λ (l : List Entry). IsSoundInodes l t.locks) changed good

        there : slice_get (slice_set t.entries k new) k ≡ Some new
        there = slice_get-set_same t.entries k new (slice_get_within t.entries k f.entry f.there)

        place : place_of n (slice_set t.entries k new) ≡ Some k
        place = placed n (slice_set t.entries k new) k good_set.once (record { entry = new; there = there; number = f.number; referenced = omega arith })

        before : w.refs n ≡ f.entry.references
        before = shows.places.counts n ∙ ap (references_in t.entries) e ∙ ap references_at f.there

        set_so : PlacesShow (slice_set t.entries k new) t.locks (put w.refs n (w.refs n + 1)) w.lock (put load n (load n))
        set_so =
            places_set t.entries k n f.entry new f.there (λ _. f.number) (λ _. f.number) sound.once good_set.once t.locks t.locks (λ j ne. refl) w.refs w.lock load (w.refs n + 1) (load n) shows.places
            (ap (references_in (slice_set t.entries k new)) place ∙ ap references_at there ∙ ap (λ (z : ℕ). z + 1) (sym before))
            (ap (holder_in t.locks) place ∙ ap (holder_in t.locks) (sym e) ∙ sym (shows.places.holders n))
            (ap (loaded_in t.locks) place ∙ ap (loaded_in t.locks) (sym e) ∙ sym (shows.places.loads n))

    shown_begun : (k : ℕ) → place_of n t.entries ≡ None → position is_unused t.entries ≡ Some k → Shows (begun_at n k t) (counted_up h n w) load
    shown_begun k none e = record {
      sound = record { inodes = good; files = shows.sound.files; desks = shows.sound.desks };
      places = load_same (slice_set t.entries k new) (slice_set t.locks k slot) (put w.refs n (w.refs n + 1)) w.lock load n set_so;
      files = shows.files;
      desks = shows.desks;
      lenders = shows.lenders;
      range = range_up;
    }
      where
        f : Free t.entries k
        f = free t.entries k e

        new : Entry
        new = record { number = n; references = 1 }

        slot : SlotState Inode
        slot = filled k (record { number = n; content = None })

        good : IsSoundInodes (slice_set t.entries k new) (slice_set t.locks k slot)
        good = begun_good n k t.entries t.locks f none sound

        within : k < length t.locks
        within = let a = slice_get_within t.entries k f.entry f.there in let b = sound.places in let c = sound.same in omega (arith, a, b, c)

        there : slice_get (slice_set t.entries k new) k ≡ Some new
        there = slice_get-set_same t.entries k new (slice_get_within t.entries k f.entry f.there)

        slot_there : slice_get (slice_set t.locks k slot) k ≡ Some slot
        slot_there = slice_get-set_same t.locks k slot within

        place : place_of n (slice_set t.entries k new) ≡ Some k
        place = placed n (slice_set t.entries k new) k good.once (record { entry = new; there = there; number = refl; referenced = omega arith })

        zero_refs : w.refs n ≡ 0
        zero_refs = shows.places.counts n ∙ ap (references_in t.entries) none

        set_so : PlacesShow (slice_set t.entries k new) (slice_set t.locks k slot) (put w.refs n (w.refs n + 1)) w.lock (put load n (load n))
        set_so =
            places_set t.entries k n f.entry new f.there (λ lt. absurd (let z = f.none in omega (arith, z, lt))) (λ _. refl) sound.once good.once t.locks (slice_set t.locks k slot) (λ j ne. slice_get-set_other t.locks k j slot ne) w.refs w.lock load (w.refs n + 1) (load n) shows.places
            (ap (references_in (slice_set t.entries k new)) place ∙ ap references_at there ∙ sym (ap (λ (z : ℕ). z + 1) zero_refs))
            (ap (holder_in (slice_set t.locks k slot)) place ∙ ap holder_at slot_there ∙ sym (shows.places.holders n ∙ ap (holder_in t.locks) none))
            (ap (loaded_in (slice_set t.locks k slot)) place ∙ ap loaded_at slot_there ∙ sym (shows.places.loads n ∙ ap (loaded_in t.locks) none))

    -- a place for it
    place_here : (k : ℕ) → place_of n t.entries ≡ Some k → has_place w n ≡ true
    place_here k e =
        let f = found n t.entries k e in
        let c : w.refs n ≡ f.entry.references = shows.places.counts n ∙ ap (references_in t.entries) e ∙ ap references_at f.there in
        let r = f.referenced in
        ap (λ (b : Bool). b || nat_lt (referenced w) above.place_count) (yes 0 (w.refs n) (omega (arith, c, r)))

    place_new : place_of n t.entries ≡ None → has_place w n ≡ is_some (position is_unused t.entries)
    place_new e =
        let c : w.refs n ≡ 0 = shows.places.counts n ∙ ap (references_in t.entries) e in
        ap (λ (z : ℕ). nat_lt 0 z || nat_lt (referenced w) above.place_count) c ∙ ap (nat_lt (referenced w)) (sym sound.places) ∙ sym (room_is w.all.ninodes t.entries w.refs sound.once below shows.places.counts)

    -- by what there is
    pub by_place : (P : Type 0) → ((u : TablesState) → up_inode n t ≡ Ran (Some n) u → has_place w n ≡ true → Shows u (counted_up h n w) load → P) → (up_inode n t ≡ Ran None t → has_place w n ≡ false → P) → P
    by_place P some none = at (place_of n t.entries) refl
      where
        new_at : place_of n t.entries ≡ None → (o : Option ℕ) → position is_unused t.entries ≡ o → P
        new_at e (Some k) q = some (begun_at n k t) (up_begun n k t e q) (place_new e ∙ ap is_some q) (shown_begun k e q)
        new_at e None q = none (up_full n t e q) (place_new e ∙ ap is_some q)

        at : (o : Option ℕ) → place_of n t.entries ≡ o → P
        at (Some k) e = some (counted_at k t) (up_counted n k t e) (place_here k e) (shown_counted k e)
        at None e = new_at e (position is_unused t.entries) refl

pub tables_count_references : TablesCountReferences
tables_count_references version h n t w load shows low size =
    by_place h n t w load shows low size _
    (λ u ran there after. both_ran _ _ _ _ (Some n) true u (counted_up h n w) ran (ap (up_if h n w) there) refl after)
    (λ ran there. both_ran _ _ _ _ None false t w ran (ap (up_if h n w) there) refl shows)

pub starts_are_counted : StartsAreCounted
starts_are_counted version h absolute t w load shows low size =
    let n = start_number (w.desks h) absolute in
    by_place h n t w load shows low size _
    (λ u ran there after. both_ran _ _ _ _ (Some n) (Some n) u (counted_up h n w) ran (ap (start_if h n w) there) refl after)
    (λ ran there. both_ran _ _ _ _ None None t w ran (ap (start_if h n w) there) refl shows)

pub directories_are_starts : DirectoriesAreStarts
unfolding up_directory
directories_are_starts h t w load shows lt =
    let d = shows.desks h lt in
    ap (λ (z : ℕ). up_inode z t) (ap directory_of d.1 ∙ d.2.directory)

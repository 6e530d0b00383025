-- Open files and descriptors.
use Rattle.inodes_on_blocks.proofs.Vocabulary.{◌≡◌, ◌≢◌, inl, inr, ℕ, ◌<◌, ◌&&◌, not, nat_lt, Bool, true, false, if◌then◌else◌, List, length, length-set, Option, Some, None, refl, sym, ◌∙◌, ap, subst, arith, slice_get, slice_set, position, nat_tests, slice_get_within, slice_get-get_or, same_Some, position-Some, slice_get-set_same, slice_get-set_other, put, lowest, has_room, hart_count, descriptor_count, eq_not, eq_self, same_or, put_same, put_other, any_at, none_any, change_at, first_empty, FilePlace, Taken, desk_count, file_places, TablesState, with_desk, take_place, take_at, with_hand, with_descriptor, with_place, opened, open_file, open_in, open_by, hand_of, descriptors_of, change_set, length-change_at, Desk, Entry, file_count, is_nothing, is_at, is_empty_slot, first_from, slot_if, install_if, installed, put_elim, BothCame, kind_of, new_file, DeskShows, DesksShow, FilesShow, Runs, place_with, is_taken, PlacesAreTaken, FilesAreOpened, Loaded}
use Rattle.fs_machine.specs.declared.desk.Desk as cards
use Rattle.fs_machine.specs.declared.files.FilePlace.TheVariants.{Free, Open}
use Rattle.fs_machine.specs.Files.{is_free}
use Rattle.inode_machine.specs.World.{World}
use Rattle.inodes_on_blocks.specs.ShownTables.{Shows}
use Rattle.inodes_on_blocks.proofs.Locks.{both_ran}
use Rattle.inodes_on_blocks.proofs.Desks.{position_first, first_empty_is, desks_set, lenders_set, own_desk, taken_same}

-- a place is free if no file is open in it, and no hart has it in hand
free_is : (taken : Bool) (o : Option Entry) → is_free (place_with taken o) ≡ (is_nothing o && not taken)
free_is true None = refl
free_is false None = refl
free_is taken (Some e) = refl

-- the places after one was set
pub files_set : (places : List FilePlace) (files new : ℕ → Option Entry) (desks then_ : ℕ → Desk) (k : ℕ) (p : FilePlace) → FilesShow places files desks → p ≡ place_with (is_taken then_ k) (new k)
    → ((j : ℕ) → j ≢ k → (new j ≡ files j) × (is_taken then_ j ≡ is_taken desks j)) → FilesShow (slice_set places k p) new then_
files_set places files new desks then_ k p shows is same j lt = elim (same_or j k) [
  | inl q ↦
      let at = shows j lt in
      ap (slice_get (slice_set places k p)) q ∙ slice_get-set_same places k p (slice_get_within places k _ (ap (slice_get places) (sym q) ∙ at)) ∙ ap (λ (x : FilePlace). Some x) is ∙ ap (λ (z : ℕ). Some (place_with (is_taken then_ z) (new z))) (sym q)
  | inr ne ↦ let s = same j ne in slice_get-set_other places k j p ne ∙ shows j lt ∙ (λ z. Some (place_with (sym s.1 z) (sym s.0 z)))
]

-- a card with another descriptor
pub card_set : (d : cards.Desk) (fds : ℕ → Option ℕ) (cwd : ℕ) (hand then_ : Option ℕ) (fd : ℕ) (o : Option ℕ) → DeskShows d fds cwd hand → fd < descriptor_count → DeskShows (with_hand then_ (with_descriptor fd o d)) (put fds fd o) cwd then_
card_set d fds cwd hand then_ fd o s lt = record {
  long = length-set d.descriptors fd o ∙ s.long;
  descriptors = λ i l. elim (same_or i fd) [
    | inl q ↦ ap (slice_get (slice_set d.descriptors fd o)) q ∙ slice_get-set_same d.descriptors fd o (subst (λ (n : ℕ). fd < n) (sym s.long) lt) ∙ ap (λ (x : Option ℕ). Some x) (sym (ap (put fds fd o) q ∙ put_same fds fd o))
    | inr ne ↦ slice_get-set_other d.descriptors fd i o ne ∙ s.descriptors i l ∙ ap (λ (x : Option ℕ). Some x) (sym (put_other fds fd o i ne))
  ];
  directory = s.directory;
  hand = refl;
}

pub below_is : (a b : ℕ) → nat_lt a b ≡ true → a < b
below_is a b e = grind (arith, nat_tests)

-- ---- a hart's desk changed

module _ (h : ℕ) (t : TablesState) (w : World) (load : ℕ → Option Loaded) (shows : Shows t w load) (runs : Runs h w) where
  abbrev own : (d : cards.Desk) × (slice_get t.desks h ≡ Some d) × DeskShows d (w.desks h).fds (w.desks h).directory (w.desks h).hand
  own = own_desk h t w load shows runs

  pub desk_set : (f : cards.Desk → cards.Desk) (new : Desk) → new.lender ≡ None → ((i : ℕ) → new.lent i ≡ (w.desks h).lent i)
      → ((d : cards.Desk) → DeskShows d (w.desks h).fds (w.desks h).directory (w.desks h).hand → DeskShows (f d) new.fds new.directory new.hand) → DesksShow (change_at h f t.desks) (put w.desks h new)
  desk_set f new free lent card =
      subst (λ (l : List cards.Desk). DesksShow l (put w.desks h new)) (sym (change_set h f t.desks own.0 own.1))
      (desks_set t.desks w.desks h own.0 (f own.0) new own.1 free lent (card own.0 own.2) shows.desks)

  pub long_desks : (f : cards.Desk → cards.Desk) → length (change_at h f t.desks) ≡ desk_count
  long_desks f = length-change_at h f t.desks ∙ shows.sound.desks

  pub long_files : (k : ℕ) (p : FilePlace) → length (slice_set t.files k p) ≡ file_places
  long_files k p = length-set t.files k p ∙ shows.sound.files

  pub empty_is : first_empty (descriptors_of (slice_get t.desks h)) ≡ (if has_room (w.desks h).fds then Some (lowest (w.desks h).fds) else None)
  empty_is = ap (λ (o : Option cards.Desk). first_empty (descriptors_of o)) own.1 ∙ first_empty_is (w.desks h).fds own.0.descriptors own.2.long own.2.descriptors

  pub hand_here : hand_of (slice_get t.desks h) ≡ (w.desks h).hand
  hand_here = ap hand_of own.1 ∙ own.2.hand

-- ---- a place taken

not_at : (k j : ℕ) → j ≢ k → is_at (Some k) j ≡ false
not_at k j ne = eq_not k j (λ q. ne (sym q))

pub none_at : (o : Option ℕ) (j : ℕ) → o ≡ None → is_at o j ≡ false
none_at o j e = ap (λ (z : Option ℕ). is_at z j) e

pub places_are_taken : PlacesAreTaken
unfolding take_place
places_are_taken version h t w load shows runs free = at (position is_free t.files) refl
  where
    same_places : position is_free t.files ≡ first_from file_count 0 (is_empty_slot w)
    same_places = position_first is_free (is_empty_slot w) t.files file_count shows.sound.files
        (λ j x there. ap is_free (same_Some x _ (sym there ∙ shows.files j (subst (λ (n : ℕ). j < n) shows.sound.files (slice_get_within t.files j x there)))) ∙ free_is (is_taken w.desks j) (w.files j))

    new : ℕ → Desk
    new k = record (w.desks h) { hand = Some k }

    -- nothing is open at a free place
    unused : (k : ℕ) → position is_free t.files ≡ Some k → w.files k ≡ None
    unused k e =
        let at = position-Some is_free t.files k Free e in
        let p : is_free (place_with (is_taken w.desks k) (w.files k)) ≡ true = ap is_free (sym (same_Some _ _ (sym (slice_get-get_or t.files k Free at.0) ∙ shows.files k (subst (λ (n : ℕ). k < n) shows.sound.files at.0)))) ∙ at.1 in
        nothing (w.files k) (is_taken w.desks k) p
      where
        nothing : (o : Option Entry) (b : Bool) → is_free (place_with b o) ≡ true → o ≡ None
        nothing None b p = refl
        nothing (Some e) b p = absurd (let q : false ≡ true = p in cc)

    shown : (k : ℕ) → position is_free t.files ≡ Some k → Shows (with_desk h (with_hand (Some k)) (with_place k Taken t)) (record w { desks = put w.desks h (record (w.desks h) { hand = Some k }) }) load
    shown k e = record {
      sound = record { inodes = shows.sound.inodes; files = long_files h t w load shows runs k Taken; desks = long_desks h t w load shows runs (with_hand (Some k)) };
      places = shows.places;
      files = files_set t.files w.files w.files w.desks (put w.desks h (record (w.desks h) { hand = Some k })) k Taken shows.files
          (λ z. place_with (sym (any_at hart_count (λ g. is_at (put w.desks h (record (w.desks h) { hand = Some k }) g).hand k) h runs.below (ap (λ (d : Desk). is_at d.hand k) (put_same w.desks h (record (w.desks h) { hand = Some k })) ∙ eq_self k)) z) (sym (unused k e) z))
          (λ j ne. (refl, taken_same w.desks h (record (w.desks h) { hand = Some k }) j (not_at k j ne ∙ sym (none_at (w.desks h).hand j free))));
      desks = desk_set h t w load shows runs (with_hand (Some k)) (record (w.desks h) { hand = Some k }) runs.free (λ i. refl) (λ d s. record { long = s.long; descriptors = s.descriptors; directory = s.directory; hand = refl });
      lenders = lenders_set w.desks h (record (w.desks h) { hand = Some k }) refl shows.lenders;
      range = shows.range;
    }

    at : (o : Option ℕ) → position is_free t.files ≡ o → BothCame (λ a b. a ≡ b) (λ (a : Bool). load) (take_at h t o) (slot_if h w (first_from file_count 0 (is_empty_slot w)))
    at None e = both_ran (λ a b. a ≡ b) (λ (a : Bool). load) (take_at h t None) (slot_if h w (first_from file_count 0 (is_empty_slot w))) false false t w refl (ap (slot_if h w) (sym same_places ∙ e)) refl shows
    at (Some k) e = both_ran (λ a b. a ≡ b) (λ (a : Bool). load) (take_at h t (Some k)) (slot_if h w (first_from file_count 0 (is_empty_slot w))) true true (with_desk h (with_hand (Some k)) (with_place k Taken t)) (record w { desks = put w.desks h (record (w.desks h) { hand = Some k }) }) refl (ap (slot_if h w) (sym same_places ∙ e)) refl (shown k e)

-- ---- a file opened

pub files_are_opened : FilesAreOpened
unfolding open_file
files_are_opened version h f inode_type t w load shows inv runs some start = at (w.desks h).hand refl
  where
    into : ℕ → ℕ → Desk
    into k fd = record (w.desks h) { fds = put (w.desks h).fds fd (Some k); hand = None; opening = None }

    back : Desk
    back = record (w.desks h) { hand = None }

    entry : Entry
    entry = record { file = f; inode_type = inode_type; references = 1 }

    others : (new : Desk) (k j : ℕ) → (w.desks h).hand ≡ Some k → new.hand ≡ None → j ≢ k → is_taken (put w.desks h new) j ≡ is_taken w.desks j
    others new k j e none ne = taken_same w.desks h new j (none_at new.hand j none ∙ sym (ap (λ (o : Option ℕ). is_at o j) e ∙ not_at k j ne))

    shown_open : (k fd : ℕ) → (w.desks h).hand ≡ Some k → fd < descriptor_count
        → Shows (with_desk h (λ d. with_hand None (with_descriptor fd (Some k) d)) (with_place k (Open (opened f.number (new_file f inode_type))) t)) (installed h w f inode_type k fd) load
    shown_open k fd e lt = record {
      sound = record { inodes = shows.sound.inodes; files = long_files h t w load shows runs k (Open (opened f.number (new_file f inode_type))); desks = long_desks h t w load shows runs (λ d. with_hand None (with_descriptor fd (Some k) d)) };
      places = shows.places;
      files = files_set t.files w.files (put w.files k (Some (record { file = f; inode_type = inode_type; references = 1 }))) w.desks (put w.desks h (record (w.desks h) { fds = put (w.desks h).fds fd (Some k); hand = None; opening = None })) k (Open (opened f.number (new_file f inode_type))) shows.files
          ((λ z. Open (record { number = f.number; kind = kind_of inode_type; readable = f.readable; writable = f.writable; offset = sym start z })) ∙ sym (ap (place_with (is_taken (put w.desks h (record (w.desks h) { fds = put (w.desks h).fds fd (Some k); hand = None; opening = None })) k)) (put_same w.files k (Some (record { file = f; inode_type = inode_type; references = 1 })))))
          (λ j ne. (put_other w.files k (Some (record { file = f; inode_type = inode_type; references = 1 })) j ne, others (record (w.desks h) { fds = put (w.desks h).fds fd (Some k); hand = None; opening = None }) k j e refl ne));
      desks = desk_set h t w load shows runs (λ d. with_hand None (with_descriptor fd (Some k) d)) (record (w.desks h) { fds = put (w.desks h).fds fd (Some k); hand = None; opening = None }) runs.free (λ i. refl)
          (λ d s. card_set d (w.desks h).fds (w.desks h).directory (w.desks h).hand None fd (Some k) s lt);
      lenders = lenders_set w.desks h (record (w.desks h) { fds = put (w.desks h).fds fd (Some k); hand = None; opening = None }) refl shows.lenders;
      range = shows.range;
    }

    shown_back : (k : ℕ) → (w.desks h).hand ≡ Some k → Shows (with_desk h (with_hand None) (with_place k Free t)) (record w { desks = put w.desks h (record (w.desks h) { hand = None }) }) load
    shown_back k e = record {
      sound = record { inodes = shows.sound.inodes; files = long_files h t w load shows runs k Free; desks = long_desks h t w load shows runs (with_hand None) };
      places = shows.places;
      files = files_set t.files w.files w.files w.desks (put w.desks h (record (w.desks h) { hand = None })) k Free shows.files
          (λ z. place_with (sym (none_any hart_count (λ g. is_at (put w.desks h (record (w.desks h) { hand = None }) g).hand k) nobody) z) (sym (inv.tied.hand h k runs.below e).1 z))
          (λ j ne. (refl, others (record (w.desks h) { hand = None }) k j e refl ne));
      desks = desk_set h t w load shows runs (with_hand None) (record (w.desks h) { hand = None }) runs.free (λ i. refl) (λ d s. record { long = s.long; descriptors = s.descriptors; directory = s.directory; hand = refl });
      lenders = lenders_set w.desks h (record (w.desks h) { hand = None }) refl shows.lenders;
      range = shows.range;
    }
      where
        nobody : (g : ℕ) → g < hart_count → is_at (put w.desks h (record (w.desks h) { hand = None }) g).hand k ≡ false
        nobody g lt = put_elim w.desks h (record (w.desks h) { hand = None }) g (λ d. is_at d.hand k ≡ false) (λ q. refl) (λ ne. at (w.desks g).hand refl ne)
          where
            at : (o : Option ℕ) → (w.desks g).hand ≡ o → g ≢ h → is_at o k ≡ false
            at None q ne = refl
            at (Some l) q ne = eq_not l k (λ z. ne (inv.tied.hands g h k lt runs.below (q ∙ ap (λ (x : ℕ). Some x) z) e))

    at : (o : Option ℕ) → (w.desks h).hand ≡ o → BothCame (λ a b. a ≡ b) (λ a. load) (open_in h f.number (new_file f inode_type) t (hand_of (slice_get t.desks h))) (install_if h w f inode_type (w.desks h).hand (has_room (w.desks h).fds))
    at None e = absurd (some e)
    at (Some k) e = by_room (has_room (w.desks h).fds) refl
      where
        below_of : (b : Bool) → has_room (w.desks h).fds ≡ b → open_in h f.number (new_file f inode_type) t (hand_of (slice_get t.desks h)) ≡ open_by h f.number (new_file f inode_type) k t (if b then Some (lowest (w.desks h).fds) else None)
        below_of b q = ap (open_in h f.number (new_file f inode_type) t) (hand_here h t w load shows runs ∙ e) ∙ ap (open_by h f.number (new_file f inode_type) k t) (empty_is h t w load shows runs ∙ ap (λ (c : Bool). if c then Some (lowest (w.desks h).fds) else None) q)

        above_of : (b : Bool) → has_room (w.desks h).fds ≡ b → install_if h w f inode_type (w.desks h).hand (has_room (w.desks h).fds) ≡ install_if h w f inode_type (Some k) b
        above_of b q = λ z. install_if h w f inode_type (e z) (q z)

        by_room : (b : Bool) → has_room (w.desks h).fds ≡ b → BothCame (λ a b. a ≡ b) (λ a. load) (open_in h f.number (new_file f inode_type) t (hand_of (slice_get t.desks h))) (install_if h w f inode_type (w.desks h).hand (has_room (w.desks h).fds))
        by_room true q = both_ran (λ a b. a ≡ b) (λ a. load) (open_in h f.number (new_file f inode_type) t (hand_of (slice_get t.desks h))) (install_if h w f inode_type (w.desks h).hand (has_room (w.desks h).fds)) (Some (lowest (w.desks h).fds)) (Some (lowest (w.desks h).fds)) (with_desk h (λ d. with_hand None (with_descriptor (lowest (w.desks h).fds) (Some k) d)) (with_place k (Open (opened f.number (new_file f inode_type))) t)) (installed h w f inode_type k (lowest (w.desks h).fds)) (below_of true q) (above_of true q) refl (shown_open k (lowest (w.desks h).fds) e (below_is (lowest (w.desks h).fds) descriptor_count q))
        by_room false q = both_ran (λ a b. a ≡ b) (λ a. load) (open_in h f.number (new_file f inode_type) t (hand_of (slice_get t.desks h))) (install_if h w f inode_type (w.desks h).hand (has_room (w.desks h).fds)) None None (with_desk h (with_hand None) (with_place k Free t)) (record w { desks = put w.desks h (record (w.desks h) { hand = None }) }) (below_of false q) (above_of false q) refl (shown_back k e)

-- What the steps on descriptors and open files answer, and what they leave.
use Rattle.fs_machine.proofs.Vocabulary.{◌≡◌, ℕ, zero, suc, true, false, List, [], ◌∷◌, length, length-set, refl, ap, sym, ◌∙◌, Option, Some, None, slice_get, slice_set, position, list_any, Ran, Desk, FilePlace, Free, Taken, NewFile, OpenFile, change_at, first_empty, TablesState, place_named, file_named, file_in, open_at, with_offset, moved_at, is_free, hand_of, descriptors_of, with_hand, with_descriptor, opened, names, take_place, take_at, open_file, open_in, open_by, double_descriptor, double_at, double_to, shut_descriptor, shut_at, freed_if}
use Rattle.fs_machine.specs.declared.files.FilePlace.TheVariants.{Open}
use Rattle.fs_machine.specs.declared.slots.Doubled.TheVariants as doubled
use Rattle.fs_machine.specs.declared.slots.Shut.TheVariants as shut
use Rattle.fs_machine.specs.Files.{freed_at}
use Rattle.fs_machine.proofs.Places.{length-change_at}

-- lengths stay
pub files_set : {X : Type 0} (old new : List X) (k n : ℕ) (p : X) → new ≡ slice_set old k p → length old ≡ n → length new ≡ n
files_set old new k n p is long = ap (λ l. length l) is ∙ (length-set old k p ∙ long)

pub desks_changed : {X : Type 0} (old new : List X) (h n : ℕ) (f : X → X) → new ≡ change_at h f old → length old ≡ n → length new ≡ n
desks_changed old new h n f is long = ap (λ l. length l) is ∙ (length-change_at h f old ∙ long)

pub change_twice : {X : Type 0} (k : ℕ) (f g : X → X) (xs : List X) → change_at k g (change_at k f xs) ≡ change_at k (λ x. g (f x)) xs
change_twice k f g [] = refl
change_twice zero f g (x ∷ xs) = refl
change_twice (suc k) f g (x ∷ xs) = ap (λ l. x ∷ l) (change_twice k f g xs)

module _ (h : ℕ) (t : TablesState) where
  pub none_taken : position is_free t.files ≡ None → take_place h t ≡ Ran false t
  unfolding take_place
  none_taken e = ap (take_at h t) e

  pub taken_ran : (k : ℕ) (files : List FilePlace) (desks : List Desk) → position is_free t.files ≡ Some k → files ≡ slice_set t.files k Taken → desks ≡ change_at h (with_hand (Some k)) t.desks
      → take_place h t ≡ Ran true (record t { files = files; desks = desks })
  unfolding take_place
  taken_ran k files desks e f d = ap (take_at h t) e ∙ (λ i. Ran true (record t { files = sym f i; desks = sym d i }))

  module _ (fd : ℕ) where
    pub double_bad : place_named h fd t ≡ None → double_descriptor h fd t ≡ Ran doubled.BadDescriptor t
    unfolding double_descriptor
    double_bad e = ap (double_at h t) e

    pub double_full : (k : ℕ) → place_named h fd t ≡ Some k → first_empty (descriptors_of (slice_get t.desks h)) ≡ None → double_descriptor h fd t ≡ Ran doubled.Full t
    unfolding double_descriptor
    double_full k e none = ap (double_at h t) e ∙ ap (double_to h k t) none

    pub double_gave : (k other : ℕ) (desks : List Desk) → place_named h fd t ≡ Some k → first_empty (descriptors_of (slice_get t.desks h)) ≡ Some other
        → desks ≡ change_at h (with_descriptor other (Some k)) t.desks → double_descriptor h fd t ≡ Ran (doubled.Gave other) (record t { desks = desks })
    unfolding double_descriptor
    double_gave k other desks e some d =
        ap (double_at h t) e ∙ (ap (double_to h k t) some ∙ (λ i. Ran (doubled.Gave other) (record t { desks = sym d i })))

    pub shut_bad : place_named h fd t ≡ None → shut_descriptor h fd t ≡ Ran shut.BadDescriptor t
    unfolding shut_descriptor
    shut_bad e = ap (shut_at h fd t) e

    module _ (k : ℕ) (desks : List Desk) (e : place_named h fd t ≡ Some k) (d : desks ≡ change_at h (with_descriptor fd None) t.desks) where
      begun : shut_descriptor h fd t ≡ freed_at k (record t { desks = desks })
      unfolding shut_descriptor
      begun = ap (shut_at h fd t) e ∙ (λ i. freed_at k (record t { desks = sym d i }))

      pub shut_named : list_any (names k) desks ≡ true → shut_descriptor h fd t ≡ Ran shut.Closed (record t { desks = desks })
      shut_named named = begun ∙ ap (freed_if k (record t { desks = desks }) (open_at (slice_get t.files k))) named

      pub shut_nothing : list_any (names k) desks ≡ false → open_at (slice_get t.files k) ≡ None → shut_descriptor h fd t ≡ Ran shut.Closed (record t { desks = desks })
      shut_nothing named none =
          begun ∙ (ap (freed_if k (record t { desks = desks }) (open_at (slice_get t.files k))) named ∙ ap (λ o. freed_if k (record t { desks = desks }) o false) none)

      pub shut_last : (f : OpenFile) (files : List FilePlace) → list_any (names k) desks ≡ false → open_at (slice_get t.files k) ≡ Some f → files ≡ slice_set t.files k Free
          → shut_descriptor h fd t ≡ Ran (shut.Last f.number) (record t { files = files; desks = desks })
      shut_last f files named some is =
          begun ∙ (ap (freed_if k (record t { desks = desks }) (open_at (slice_get t.files k))) named
          ∙ (ap (λ o. freed_if k (record t { desks = desks }) o false) some ∙ (λ i. Ran (shut.Last f.number) (record t { files = sym is i; desks = desks }))))

  module _ (n : ℕ) (f : NewFile) where
    pub open_nowhere : hand_of (slice_get t.desks h) ≡ None → open_file h n f t ≡ Ran None t
    unfolding open_file
    open_nowhere e = ap (open_in h n f t) e

    pub open_full : (k : ℕ) (files : List FilePlace) (desks : List Desk) → hand_of (slice_get t.desks h) ≡ Some k → first_empty (descriptors_of (slice_get t.desks h)) ≡ None
        → files ≡ slice_set t.files k Free → desks ≡ change_at h (with_hand None) t.desks → open_file h n f t ≡ Ran None (record t { files = files; desks = desks })
    unfolding open_file
    open_full k files desks e none is d =
        ap (open_in h n f t) e ∙ (ap (open_by h n f k t) none ∙ (λ i. Ran None (record t { files = sym is i; desks = sym d i })))

    pub open_gave : (k fd : ℕ) (files : List FilePlace) (mid desks : List Desk) → hand_of (slice_get t.desks h) ≡ Some k → first_empty (descriptors_of (slice_get t.desks h)) ≡ Some fd
        → files ≡ slice_set t.files k (Open (opened n f)) → mid ≡ change_at h (with_descriptor fd (Some k)) t.desks → desks ≡ change_at h (with_hand None) mid
        → open_file h n f t ≡ Ran (Some fd) (record t { files = files; desks = desks })
    unfolding open_file
    open_gave k fd files mid desks e some is m d =
        let all : desks ≡ change_at h (λ x. with_hand None (with_descriptor fd (Some k) x)) t.desks =
        d ∙ (ap (change_at h (with_hand None)) m ∙ change_twice h (with_descriptor fd (Some k)) (with_hand None) t.desks) in
        ap (open_in h n f t) e ∙ (ap (open_by h n f k t) some ∙ (λ i. Ran (Some fd) (record t { files = sym is i; desks = sym all i })))

-- ---- an offset

module _ (h fd offset : ℕ) (t : TablesState) where
  pub moved_nowhere : place_named h fd t ≡ None → t ≡ with_offset h (Some (fd, offset)) t
  moved_nowhere e =
      let none : moved_at offset t.files (file_named h fd t) (place_named h fd t) ≡ t.files =
      ap (moved_at offset t.files (file_named h fd t)) e ∙ at (file_named h fd t) in
      λ i. record t { files = sym none i }
    where
      at : (f : Option OpenFile) → moved_at offset t.files f None ≡ t.files
      at None = refl
      at (Some f) = refl

  pub moved_nothing : (k : ℕ) → place_named h fd t ≡ Some k → open_at (slice_get t.files k) ≡ None → t ≡ with_offset h (Some (fd, offset)) t
  moved_nothing k e none =
      let file : file_named h fd t ≡ None = ap (file_in t.files) e ∙ none in
      let same : moved_at offset t.files (file_named h fd t) (place_named h fd t) ≡ t.files = ap (λ f. moved_at offset t.files f (place_named h fd t)) file in
      λ i. record t { files = sym same i }

  pub moved_file : (k : ℕ) (f : OpenFile) (files : List FilePlace) → place_named h fd t ≡ Some k → open_at (slice_get t.files k) ≡ Some f
      → files ≡ slice_set t.files k (Open (record f { offset = offset })) → record t { files = files } ≡ with_offset h (Some (fd, offset)) t
  moved_file k f files e some is =
      let file : file_named h fd t ≡ Some f = ap (file_in t.files) e ∙ some in
      let same : moved_at offset t.files (file_named h fd t) (place_named h fd t) ≡ slice_set t.files k (Open (record f { offset = offset })) =
      ap (λ o. moved_at offset t.files o (place_named h fd t)) file ∙ ap (moved_at offset t.files (Some f)) e in
      λ i. record t { files = (is ∙ sym same) i }

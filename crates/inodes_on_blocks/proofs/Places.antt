-- The places of inodes after an entry or a lock changed.
use Rattle.inodes_on_blocks.proofs.Vocabulary.{◌≡◌, ◌≢◌, ◌⊎◌, inl, inr, ℕ, ◌<◌, List, length, Option, Some, None, refl, sym, ◌∙◌, ap, subst, slice_get, slice_set, same_Some, none-some, SlotState, slice_get-set_same, slice_get-set_other, put, same_or, put_same, put_other, Inode, place_of, references_in, references_at, holder_in, holder_at, found, placed, at_set, PlacesShow, loaded_of, loaded_in, loaded_at, Loaded}
use Rattle.fs_machine.specs.declared.entries.Entry.{Entry}
use Rattle.fs_machine.specs.Soundness.{IsOnce}
use Rattle.fs_machine.proofs.Places.{Found}

-- Place k's entry changed, which is of inode n, or free.
module _ (entries : List Entry) (k n : ℕ) (e f : Entry) (there : slice_get entries k ≡ Some e) (was : 0 < e.references → e.number ≡ n) (is : 0 < f.references → f.number ≡ n) (once : IsOnce entries) (once_then : IsOnce (slice_set entries k f)) where
  apart : (m j : ℕ) → m ≢ n → Found m entries j → j ≢ k
  apart m j ne g q =
      let same : g.entry ≡ e = same_Some g.entry e (sym g.there ∙ ap (slice_get entries) q ∙ there) in
      ne (sym g.number ∙ ap (λ (v : Entry). v.number) same ∙ was (subst (λ (v : Entry). 0 < v.references) same g.referenced))

  found_then : (m j : ℕ) → m ≢ n → Found m entries j → Found m (slice_set entries k f) j
  found_then m j ne g = record { entry = g.entry; there = slice_get-set_other entries k j f (apart m j ne g) ∙ g.there; number = g.number; referenced = g.referenced }

  found_before : (m j : ℕ) → m ≢ n → Found m (slice_set entries k f) j → Found m entries j
  found_before m j ne g = elim (at_set entries k j f g.entry g.there) [
    | inl here ↦ absurd (ne (sym g.number ∙ ap (λ (v : Entry). v.number) here.1 ∙ is (subst (λ (v : Entry). 0 < v.references) here.1 g.referenced)))
    | inr other ↦ record { entry = g.entry; there = other.1; number = g.number; referenced = g.referenced }
  ]

  -- any other inode keeps its place
  pub place_other : (m : ℕ) → m ≢ n → place_of m (slice_set entries k f) ≡ place_of m entries
  place_other m ne = at (place_of m entries) refl
    where
      none : (o : Option ℕ) → place_of m (slice_set entries k f) ≡ o → place_of m entries ≡ None → o ≡ None
      none None q e = refl
      none (Some j) q e = absurd (none-some j (sym e ∙ placed m entries j once (found_before m j ne (found m (slice_set entries k f) j q))))

      at : (o : Option ℕ) → place_of m entries ≡ o → place_of m (slice_set entries k f) ≡ place_of m entries
      at (Some j) e = placed m (slice_set entries k f) j once_then (found_then m j ne (found m entries j e)) ∙ sym e
      at None e = none (place_of m (slice_set entries k f)) refl e ∙ sym e

  pub references_other : (m : ℕ) → m ≢ n → references_in (slice_set entries k f) (place_of m (slice_set entries k f)) ≡ references_in entries (place_of m entries)
  references_other m ne = ap (references_in (slice_set entries k f)) (place_other m ne) ∙ at (place_of m entries) refl
    where
      at : (o : Option ℕ) → place_of m entries ≡ o → references_in (slice_set entries k f) o ≡ references_in entries o
      at None e = refl
      at (Some j) e = ap references_at (slice_get-set_other entries k j f (apart m j ne (found m entries j e)))

  -- the locks of other places are as they were
  module _ (locks new : List (SlotState Inode)) (same : (j : ℕ) → j ≢ k → slice_get new j ≡ slice_get locks j) where
    pub holder_other : (m : ℕ) → m ≢ n → holder_in new (place_of m (slice_set entries k f)) ≡ holder_in locks (place_of m entries)
    holder_other m ne = ap (holder_in new) (place_other m ne) ∙ at (place_of m entries) refl
      where
        at : (o : Option ℕ) → place_of m entries ≡ o → holder_in new o ≡ holder_in locks o
        at None e = refl
        at (Some j) e = ap holder_at (same j (apart m j ne (found m entries j e)))

    pub loaded_other : (m : ℕ) → m ≢ n → loaded_in new (place_of m (slice_set entries k f)) ≡ loaded_in locks (place_of m entries)
    loaded_other m ne = ap (loaded_in new) (place_other m ne) ∙ at (place_of m entries) refl
      where
        at : (o : Option ℕ) → place_of m entries ≡ o → loaded_in new o ≡ loaded_in locks o
        at None e = refl
        at (Some j) e = ap loaded_at (same j (apart m j ne (found m entries j e)))

    -- what the places show then, by what is so at inode n's place
    pub places_set : (refs : ℕ → ℕ) (lock : ℕ → Option ℕ) (load : ℕ → Option Loaded) (r : ℕ) (d : Option Loaded) → PlacesShow entries locks refs lock load
        → references_in (slice_set entries k f) (place_of n (slice_set entries k f)) ≡ r
        → holder_in new (place_of n (slice_set entries k f)) ≡ lock n
        → loaded_in new (place_of n (slice_set entries k f)) ≡ d → PlacesShow (slice_set entries k f) new (put refs n r) lock (put load n d)
    places_set refs lock load r d shows counts holder is_loaded = record { counts = λ m. count m (same_or m n); holders = λ m. held m (same_or m n); loads = λ m. load_at m (same_or m n) }
      where
        count : (m : ℕ) → (m ≡ n) ⊎ (m ≢ n) → put refs n r m ≡ references_in (slice_set entries k f) (place_of m (slice_set entries k f))
        count m (inl q) = ap (put refs n r) q ∙ put_same refs n r ∙ sym counts ∙ ap (λ (z : ℕ). references_in (slice_set entries k f) (place_of z (slice_set entries k f))) (sym q)
        count m (inr ne) = put_other refs n r m ne ∙ shows.counts m ∙ sym (references_other m ne)

        held : (m : ℕ) → (m ≡ n) ⊎ (m ≢ n) → lock m ≡ holder_in new (place_of m (slice_set entries k f))
        held m (inl q) = ap lock q ∙ sym holder ∙ ap (λ (z : ℕ). holder_in new (place_of z (slice_set entries k f))) (sym q)
        held m (inr ne) = shows.holders m ∙ sym (holder_other m ne)

        load_at : (m : ℕ) → (m ≡ n) ⊎ (m ≢ n) → put load n d m ≡ loaded_in new (place_of m (slice_set entries k f))
        load_at m (inl q) = ap (put load n d) q ∙ put_same load n d ∙ sym is_loaded ∙ ap (λ (z : ℕ). loaded_in new (place_of z (slice_set entries k f))) (sym q)
        load_at m (inr ne) = put_other load n d m ne ∙ shows.loads m ∙ sym (loaded_other m ne)

-- ---- a lock changed

module _ (entries : List Entry) (locks : List (SlotState Inode)) (k n : ℕ) (s : SlotState Inode) (once : IsOnce entries) (place : place_of n entries ≡ Some k) (within : k < length locks) where
  elsewhere : (m : ℕ) → m ≢ n → (j : ℕ) → place_of m entries ≡ Some j → j ≢ k
  elsewhere m ne j e q =
      let f = found m entries j e in
      let g = found n entries k place in
      let same : f.entry ≡ g.entry = same_Some f.entry g.entry (sym f.there ∙ ap (slice_get entries) q ∙ g.there) in
      ne (sym f.number ∙ ap (λ (v : Entry). v.number) same ∙ g.number)

  pub locks_set : (refs : ℕ → ℕ) (lock : ℕ → Option ℕ) (load : ℕ → Option Loaded) → PlacesShow entries locks refs lock load
      → PlacesShow entries (slice_set locks k s) refs (put lock n s.holder) (put load n (loaded_of s.inside))
  locks_set refs lock load shows = record { counts = shows.counts; holders = λ m. held m (same_or m n); loads = λ m. load_at m (same_or m n) }
    where
      here : slice_get (slice_set locks k s) k ≡ Some s
      here = slice_get-set_same locks k s within

      other : (m : ℕ) → m ≢ n → (o : Option ℕ) → place_of m entries ≡ o → holder_in (slice_set locks k s) o ≡ holder_in locks o
      other m ne None e = refl
      other m ne (Some j) e = ap holder_at (slice_get-set_other locks k j s (elsewhere m ne j e))

      other_load : (m : ℕ) → m ≢ n → (o : Option ℕ) → place_of m entries ≡ o → loaded_in (slice_set locks k s) o ≡ loaded_in locks o
      other_load m ne None e = refl
      other_load m ne (Some j) e = ap loaded_at (slice_get-set_other locks k j s (elsewhere m ne j e))

      held : (m : ℕ) → (m ≡ n) ⊎ (m ≢ n) → put lock n s.holder m ≡ holder_in (slice_set locks k s) (place_of m entries)
      held m (inl q) = ap (put lock n s.holder) q ∙ put_same lock n s.holder ∙ sym (ap (λ (z : ℕ). holder_in (slice_set locks k s) (place_of z entries)) q ∙ ap (holder_in (slice_set locks k s)) place ∙ ap holder_at here)
      held m (inr ne) = put_other lock n s.holder m ne ∙ shows.holders m ∙ sym (other m ne (place_of m entries) refl)

      load_at : (m : ℕ) → (m ≡ n) ⊎ (m ≢ n) → put load n (loaded_of s.inside) m ≡ loaded_in (slice_set locks k s) (place_of m entries)
      load_at m (inl q) = ap (put load n (loaded_of s.inside)) q ∙ put_same load n (loaded_of s.inside) ∙ sym (ap (λ (z : ℕ). loaded_in (slice_set locks k s) (place_of z entries)) q ∙ ap (loaded_in (slice_set locks k s)) place ∙ ap loaded_at here)
      load_at m (inr ne) = put_other load n (loaded_of s.inside) m ne ∙ shows.loads m ∙ sym (other_load m ne (place_of m entries) refl)

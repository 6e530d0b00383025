-- The slots of an index gone through from the front.
use Rattle.directory.proofs.Vocabulary.{◌≡◌, ◌≢◌, ℕ, ◌+◌, ◌<◌, ◌≤◌, nat_lt, ◌&&◌, Bool, true, false, List, [], ◌∷◌, ◌++◌, length, take, drop, get_or, Some, refl, sym, ap, ◌∙◌, append_assoc, append-nil, add-one, drop_all, drop_more, take_all, take_more, ne_eqb, eq-eqb, lt-ltb, le-ltb, insert, remove, IndexedSlot, first_gap, first_that, found_as, placed, without}

abbrev pub no_slot : IndexedSlot
no_slot = record { place = 0; bytes = [] }

module _ (slots : List IndexedSlot) (i : ℕ) where
  abbrev at : IndexedSlot
  at = get_or slots i no_slot

  -- the slot at i, and those after it
  front : i < length slots → drop i slots ≡ at ∷ drop (i + 1) slots
  front h = drop_more slots i no_slot h

  behind : i < length slots → take (i + 1) slots ≡ take i slots ++ at ∷ []
  behind h = take_more slots i no_slot h

  over : length slots ≤ i → drop i slots ≡ []
  over h = drop_all i slots h

  -- ---- the first slot that isn't there

  pub gap_stops : i < length slots → at.place ≢ i → first_gap i (drop i slots) ≡ i
  unfolding first_gap
  gap_stops h ne = rw (front h, ne_eqb at.place i ne) refl

  pub gap_goes : i < length slots → at.place ≡ i → first_gap i (drop i slots) ≡ first_gap (i + 1) (drop (i + 1) slots)
  unfolding first_gap
  gap_goes h e = rw (front h, eq-eqb at.place i e) refl

  pub gap_ends : length slots ≤ i → first_gap i (drop i slots) ≡ i
  unfolding first_gap
  gap_ends h = rw (over h) refl

  -- ---- the first one that passes a test

  module _ (test : IndexedSlot → Bool) (count : ℕ) where
    pub that_here : i < length slots → at.place < count → test at ≡ true → first_that test count (drop i slots) ≡ Some (found_as at)
    that_here h few is = rw (front h, lt-ltb at.place count few, is) refl

    pub that_goes : i < length slots → (nat_lt at.place count && test at) ≡ false → first_that test count (drop i slots) ≡ first_that test count (drop (i + 1) slots)
    that_goes h not = rw (front h, not) refl

  -- ---- one put in its place

  module _ (e : IndexedSlot) (so_far : placed e slots ≡ take i slots ++ placed e (drop i slots)) where
    pub placed_stops : i < length slots → e.place < at.place → placed e slots ≡ insert slots i e
    unfolding placed
    placed_stops h lt =
        let here : placed e (drop i slots) ≡ e ∷ drop i slots = rw (front h, lt-ltb e.place at.place lt) refl in
        so_far ∙ ap (λ xs. take i slots ++ xs) here

    pub placed_goes : i < length slots → at.place ≤ e.place → placed e slots ≡ take (i + 1) slots ++ placed e (drop (i + 1) slots)
    unfolding placed
    placed_goes h le =
        let rest : List IndexedSlot = placed e (drop (i + 1) slots) in
        let here : placed e (drop i slots) ≡ at ∷ rest = rw (front h, le-ltb e.place at.place le) refl in
        so_far ∙ ap (λ xs. take i slots ++ xs) here ∙ sym (append_assoc (take i slots) (at ∷ []) rest) ∙ ap (λ xs. xs ++ rest) (sym (behind h))

    pub placed_ends : length slots ≤ i → placed e slots ≡ insert slots i e
    unfolding placed
    placed_ends h = so_far ∙ rw (over h) refl

  -- ---- one taken away

  module _ (p : ℕ) (so_far : without p slots ≡ take i slots ++ without p (drop i slots)) where
    pub without_stops : i < length slots → at.place ≡ p → without p slots ≡ remove slots i
    unfolding without
    without_stops h e =
        let here : without p (drop i slots) ≡ drop (i + 1) slots = rw (front h, eq-eqb at.place p e) refl in
        so_far ∙ ap (λ xs. take i slots ++ xs) here ∙ ap (λ (n : ℕ). take i slots ++ drop n slots) (add-one i)

    pub without_goes : i < length slots → at.place ≢ p → without p slots ≡ take (i + 1) slots ++ without p (drop (i + 1) slots)
    unfolding without
    without_goes h ne =
        let rest : List IndexedSlot = without p (drop (i + 1) slots) in
        let here : without p (drop i slots) ≡ at ∷ rest = rw (front h, ne_eqb at.place p ne) refl in
        so_far ∙ ap (λ xs. take i slots ++ xs) here ∙ sym (append_assoc (take i slots) (at ∷ []) rest) ∙ ap (λ xs. xs ++ rest) (sym (behind h))

    pub without_ends : length slots ≤ i → without p slots ≡ slots
    unfolding without
    without_ends h =
        let none : take i slots ++ without p (drop i slots) ≡ take i slots = rw (over h) (append-nil (take i slots)) in
        so_far ∙ none ∙ take_all i slots h

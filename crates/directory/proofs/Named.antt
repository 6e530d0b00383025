-- A slot compared in its block is compared by what it is.
use Rattle.directory.proofs.Vocabulary.{◌≡◌, ◌≢◌, ℕ, ◌+◌, ◌-◌, ◌*◌, ◌/◌, ◌<◌, ◌≤◌, true, false, eqb, List, ◌++◌, length, drop, get_or, slice_index, replicate, Option, Some, None, refl, sym, ap, ◌∙◌, arith, ⊎_elim, length-append, length-drop, cases_Bool, eqb-false, bytes_eq-Decides, drop_at, get_or-drop, same_number_lists, length-replicate, Version, Dirent, Free, Used, u16_bytes, u16_at, record_at, IsBytes, list_all, is_zero, IsName, spell_dirent, dirent_of, used_of, free_of, dirent_at, which_branch, dirent_of-spell, spell-dirent_of, number-part, name_parts, u16_at-lt, u16_bytes-at, length-u16_bytes, is_named, u64_at, AreWords, word_place, are_words, in_range, dirent_len_of, name_len_of}
use Rattle.directory.proofs.OneSlot.{IsSlot, slot_in, rest_fits}
use Rattle.directory.proofs.Padded.{padded_at, u64_padded}
use Rattle.directory.proofs.Words.{same_bytes, u64_at-part, u64_at-drop}

pub free_not_used : (field : List ℕ) (n : ℕ) (name : List ℕ) → free_of field ≡ Some (Used n name) → ⊥
free_not_used field n name e =
    ⊎_elim
    (λ (t : (list_all is_zero field ≡ true) × (Some Free ≡ Some (Used n name))). let q = t.1 in cc)
    (λ (f : (list_all is_zero field ≡ false) × (None ≡ Some (Used n name))). let q = f.1 in cc)
    (which_branch (list_all is_zero field) (Some Free) None (Some (Used n name)) e)

-- a used slot has a number
pub used_number : (v : Version) (bytes : List ℕ) (n : ℕ) (name : List ℕ) → dirent_of v bytes ≡ Some (Used n name) → u16_at bytes 0 ≢ 0
used_number v bytes n name e z =
    ⊎_elim
    (λ (t : (eqb (u16_at bytes 0) 0 ≡ true) × (free_of (drop 2 bytes) ≡ Some (Used n name))). free_not_used (drop 2 bytes) n name t.1)
    (λ (f : (eqb (u16_at bytes 0) 0 ≡ false) × (used_of v (u16_at bytes 0) (drop 2 bytes) ≡ Some (Used n name))). eqb-false (u16_at bytes 0) 0 f.0 z)
    (which_branch (eqb (u16_at bytes 0) 0) (free_of (drop 2 bytes)) (used_of v (u16_at bytes 0) (drop 2 bytes)) (Some (Used n name)) e)

-- ---- the field of a name

module _ (v : Version) (bytes name : List ℕ) (s : IsSlot v bytes) where
  -- the name, and zeros up to the field's end
  abbrev field : List ℕ
  field = name ++ replicate (name_len_of v - length name) 0

  -- if the number isn't 0 and the name's field follows it, the slot is used by that name
  named_there : IsName v name → u16_at bytes 0 ≢ 0 → drop 2 bytes ≡ field → dirent_of v bytes ≡ Some (Used (u16_at bytes 0) name)
  named_there is some there =
      let long : 0 + 2 ≤ length bytes = omega (arith, s.long) in
      let spelled : spell_dirent v (Used (u16_at bytes 0) name) ≡ bytes =
      ap (λ (xs : List ℕ). u16_bytes (u16_at bytes 0) ++ xs) (sym there) ∙ u16_bytes-at bytes 0 long s.fits in
      ap (dirent_of v) (sym spelled) ∙ dirent_of-spell v (Used (u16_at bytes 0) name) (some, u16_at-lt bytes 0 s.fits, is)

  -- and if it is used by that name, the field is there
  field_there : (n : ℕ) → dirent_of v bytes ≡ Some (Used n name) → drop 2 bytes ≡ field
  field_there n e = ap (drop 2) (sym (spell-dirent_of v bytes (Used n name) s.long s.fits e)) ∙ drop_at (u16_bytes n) field 2 (length-u16_bytes n)

  -- ---- word by word

  -- the words of a slot with that name are there
  abbrev HasWords : Type 0
  HasWords = (i : ℕ) → i < dirent_len_of v / 8 → u64_at bytes (word_place i) ≡ u64_at name (word_place i - 2)

  field_words : drop 2 bytes ≡ field → HasWords
  field_words there i h =
      let at : 2 + (word_place i - 2) ≡ word_place i = omega arith in
      ap (u64_at bytes) (sym at) ∙ sym (u64_at-drop bytes 2 (word_place i - 2)) ∙ ap (λ (xs : List ℕ). u64_at xs (word_place i - 2)) there
      ∙ u64_padded name (name_len_of v - length name) (word_place i - 2)

  -- byte k of the field is one of word i
  byte_there : (k i : ℕ) → k < name_len_of v → i ≡ (k + 2) / 8 → IsBytes name → HasWords → get_or (drop 2 bytes) k 0 ≡ get_or field k 0
  unfolding u64_at
  byte_there k i h e fits words =
      let from : ℕ = word_place i in
      let j : ℕ = k + 2 - from in
      let there : from + j ≡ 2 + k = omega arith in
      let named : from - 2 + j ≡ k = omega arith in
      let word = words i (omega (arith, are_words v)) in
      let same =
      same_bytes 8 0 (drop from bytes) (drop (from - 2) name) (rest_fits from bytes s.fits) (rest_fits (from - 2) name fits) word j (omega arith) (omega arith) in
      get_or-drop 2 bytes k 0 ∙ ap (λ (n : ℕ). get_or bytes n 0) (sym there) ∙ sym (get_or-drop from bytes j 0) ∙ same ∙ get_or-drop (from - 2) name j 0
      ∙ ap (λ (n : ℕ). get_or name n 0) named ∙ sym (padded_at name (name_len_of v - length name) k)

  words_field : length name ≤ name_len_of v → IsBytes name → HasWords → drop 2 bytes ≡ field
  words_field short fits words =
      let n : ℕ = name_len_of v - length name in
      let long : length field ≡ name_len_of v = omega (arith, length-append name (replicate n 0), length-replicate {A = ℕ} n 0) in
      let many : length (drop 2 bytes) ≡ name_len_of v = omega (arith, length-drop 2 bytes, s.long) in
      same_number_lists (drop 2 bytes) field (many ∙ sym long) (λ k h. byte_there k ((k + 2) / 8) (omega (arith, many)) refl fits words)

-- ---- one of some slots

module _ (v : Version) (slots name : List ℕ) (p : ℕ) (words : List ℕ) (within : dirent_len_of v * p + dirent_len_of v ≤ length slots) (slots_fit : IsBytes slots)
    (is : IsName v name) (name_fits : IsBytes name) (are : AreWords words name) where
  abbrev slot : List ℕ
  slot = record_at (dirent_len_of v) p slots

  s : IsSlot v slot
  s = slot_in v slots p within slots_fit

  -- a word of the slot
  word_there : (i : ℕ) → i < dirent_len_of v / 8 → u64_at slot (word_place i) ≡ u64_at slots (dirent_len_of v * p + word_place i)
  word_there i h = u64_at-part slots (dirent_len_of v * p) (dirent_len_of v) (word_place i) (omega (arith, are_words v, (in_range v).2))

  -- and of one with the name
  word_named : (i : ℕ) → i < dirent_len_of v / 8 → slice_index words i ≡ u64_at name (word_place i - 2)
  word_named i h = are i (omega (arith, (in_range v).3))

  pub named_by_words : ((i : ℕ) → i < dirent_len_of v / 8 → u64_at slots (dirent_len_of v * p + word_place i) ≡ slice_index words i)
      → u16_at slots (dirent_len_of v * p) ≢ 0 → is_named name (dirent_at v p slots) ≡ true
  named_by_words all some =
      let short : length name ≤ name_len_of v = (name_parts v name is).high in
      let number : u16_at slot 0 ≢ 0 = λ z. some (sym (number-part v slots p) ∙ z) in
      let there : drop 2 slot ≡ field v slot name s = words_field v slot name s short name_fits (λ i h. word_there i h ∙ all i h ∙ word_named i h) in
      ap (is_named name) (named_there v slot name s is number there) ∙ (bytes_eq-Decides name name).1 refl

  -- ---- of another name, or free

  unnamed : ((n : ℕ) → dirent_at v p slots ≡ Some (Used n name) → ⊥) → is_named name (dirent_at v p slots) ≡ false
  unnamed not = by_entry (dirent_at v p slots) refl
    where
      by_entry : (o : Option Dirent) → dirent_at v p slots ≡ o → is_named name o ≡ false
      by_entry None e = refl
      by_entry (Some Free) e = refl
      by_entry (Some (Used n other)) e =
          ⊎_elim
          (λ (t : is_named name (Some (Used n other)) ≡ true).
          absurd (not n (e ∙ ap (λ (xs : List ℕ). Some (Used n xs)) ((bytes_eq-Decides other name).0 t))))
          (λ (f : is_named name (Some (Used n other)) ≡ false). f)
          (cases_Bool (is_named name (Some (Used n other))))

  pub unnamed_by_number : u16_at slots (dirent_len_of v * p) ≡ 0 → is_named name (dirent_at v p slots) ≡ false
  unnamed_by_number zero = unnamed (λ n e. used_number v slot n name e (number-part v slots p ∙ zero))

  pub unnamed_by_word : (i : ℕ) → i < dirent_len_of v / 8 → u64_at slots (dirent_len_of v * p + word_place i) ≢ slice_index words i
      → is_named name (dirent_at v p slots) ≡ false
  unnamed_by_word i h ne =
      unnamed (λ n e. ne (sym (word_there i h) ∙ field_words v slot name s (field_there v slot name s n e) i h ∙ sym (word_named i h)))

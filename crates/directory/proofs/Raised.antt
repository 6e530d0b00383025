-- An index raised with a block, slot by slot.
use Rattle.directory.proofs.Vocabulary.{◌≡◌, ◌≢◌, ℕ, zero, suc, ◌+◌, ◌*◌, ◌<◌, ◌≤◌, nat_le, if◌then◌else◌, ◌==◌, ◌&&◌, true, false, List, [], ◌∷◌, ◌++◌, length, take, refl, ap, ◌∙◌, arith, ⊎_elim, cases_eq, append-nil, length-append, take_at, add-one, and_from, and_right, eq-eqb, ne_eqb, le-leb, lt-leb, u16_at, record_at, IndexState, IndexedSlot, used_in, with_block, dirent_len_of, dirents_per_block_of, kept, Version}

module _ (v : Version) (k : ℕ) (block : List ℕ) where
  -- the slot at a place of block k
  abbrev pub slot : ℕ → IndexedSlot
  slot p = record { place = dirents_per_block_of v * k + p; bytes = kept (record_at (dirent_len_of v) p block) }

  pub used_free : (p : ℕ) → u16_at block (dirent_len_of v * p) ≡ 0 → used_in v k (p + 1) block ≡ used_in v k p block
  unfolding used_in
  used_free p e = rw (add-one p, eq-eqb (u16_at block (dirent_len_of v * p)) 0 e) (append-nil (used_in v k p block))

  pub used_one : (p : ℕ) → u16_at block (dirent_len_of v * p) ≢ 0 → used_in v k (p + 1) block ≡ used_in v k p block ++ slot p ∷ []
  unfolding used_in
  used_one p ne = rw (add-one p, ne_eqb (u16_at block (dirent_len_of v * p)) 0 ne) refl

  used_before : (p count : ℕ) → p ≤ count → length (used_in v k p block) ≤ length (used_in v k count block)
  unfolding used_in
  used_before p zero h = let e : p ≡ zero = omega arith in rw e (omega arith)
  used_before p (suc n) h =
      ⊎_elim
      (λ (e : p ≡ suc n). rw e (omega arith))
      (λ (ne : p ≢ suc n).
      let last : List IndexedSlot = if u16_at block (dirent_len_of v * n) == 0 then [] else slot n ∷ [] in
      omega (arith, used_before p n (omega arith), length-append (used_in v k n block) last))
      (cases_eq p (suc n))

  module _ (x : IndexState) (now : List IndexedSlot) (count : ℕ) where
    abbrev raised_so : IndexState
    raised_so = with_block k (used_in v k count block) x

    -- one more has no room
    pub raise_full : (p : ℕ) → p < count → u16_at block (dirent_len_of v * p) ≢ 0 → now ≡ x.slots ++ used_in v k p block → length now ≡ 64
        → record { blocks = x.blocks; slots = take (length x.slots) now } ≡ raised_so
    raise_full p few ne e full =
        let used : List IndexedSlot = used_in v k count block in
        let next : List IndexedSlot = used_in v k (p + 1) block in
        let many : 64 < length x.slots + length used =
        omega (arith, ap length e, length-append x.slots (used_in v k p block), ap length (used_one p ne), length-append (used_in v k p block) (slot p ∷ []), used_before (p + 1) count (omega arith)) in
        let no : ((x.blocks == k) && nat_le (length x.slots + length used) 64) ≡ false = and_right (x.blocks == k) (nat_le (length x.slots + length used) 64) (lt-leb (length x.slots + length used) 64 many) in
        let back : take (length x.slots) now ≡ x.slots = ap (take (length x.slots)) e ∙ take_at x.slots (used_in v k p block) (length x.slots) refl in
        rw (no, back) refl

    pub raise_whole : x.blocks ≡ k → now ≡ x.slots ++ used_in v k count block → length now ≤ 64 → record { blocks = k + 1; slots = now } ≡ raised_so
    raise_whole next e few =
        let used : List IndexedSlot = used_in v k count block in
        let fits : length x.slots + length used ≤ 64 = omega (arith, ap length e, length-append x.slots used) in
        let yes : ((x.blocks == k) && nat_le (length x.slots + length used) 64) ≡ true =
        and_from (x.blocks == k) (nat_le (length x.slots + length used) 64) (eq-eqb x.blocks k next) (le-leb (length x.slots + length used) 64 fits) in
        rw (yes, e) refl

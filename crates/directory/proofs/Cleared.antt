-- A slot is free exactly if it is all zeros.
use Rattle.directory.proofs.Vocabulary.{◌≡◌, ◌≢◌, ℕ, ◌+◌, ◌*◌, ◌/◌, ◌%◌, ◌<◌, true, false, List, [], length, drop, get_or, replicate, Option, Some, None, refl, sym, ap, ◌∙◌, arith, length-replicate, get_or-drop, same_number_lists, drop_all, little_number, Version, Dirent, Free, Used, record_at, IsBytes, dirent_of, dirent_at, dirent_of-spell, spell-dirent_of, is_free, u64_at, block_len, dirent_len_of, dirents_per_block_of, are_words, inside}
use Rattle.directory.proofs.OneSlot.{IsSlot, slot_in, rest_fits, zeros_at}
use Rattle.directory.proofs.Padded.{u64_padded}
use Rattle.directory.proofs.Words.{same_bytes, u64_at-part}

nothing : (at : ℕ) → u64_at [] at ≡ 0
unfolding u64_at
nothing at = ap (λ (xs : List ℕ). little_number 8 xs) (drop_all at [] (omega arith))

no_word : (n at : ℕ) → u64_at (replicate n 0) at ≡ 0
no_word n at = u64_padded [] n at ∙ nothing at

module _ (v : Version) (block : List ℕ) (p : ℕ) (long : length block ≡ block_len) (fits : IsBytes block) (within : p < dirents_per_block_of v) where
  abbrev slot : List ℕ
  slot = record_at (dirent_len_of v) p block

  s : IsSlot v slot
  s = slot_in v block p (omega (arith, inside v p within)) fits

  word_there : (i : ℕ) → i < dirent_len_of v / 8 → u64_at slot (8 * i) ≡ u64_at block (dirent_len_of v * p + 8 * i)
  word_there i h = u64_at-part block (dirent_len_of v * p) (dirent_len_of v) (8 * i) (omega (arith, are_words v))

  zero_there : (k i : ℕ) → k < dirent_len_of v → i ≡ k / 8 → u64_at slot (8 * i) ≡ 0 → get_or slot k 0 ≡ 0
  unfolding u64_at
  zero_there k i h e none =
      let at : 8 * i + k % 8 ≡ k = omega arith in
      let same = same_bytes 8 0 (drop (8 * i) slot) [] (rest_fits (8 * i) slot s.fits) (λ j. omega arith) none (k % 8) (omega arith) (omega arith) in
      ap (λ (n : ℕ). get_or slot n 0) (sym at) ∙ sym (get_or-drop (8 * i) slot (k % 8) 0) ∙ same

  pub clear_then : ((i : ℕ) → i < dirent_len_of v / 8 → u64_at block (dirent_len_of v * p + 8 * i) ≡ 0) → is_free (dirent_at v p block) ≡ true
  clear_then all =
      let zeros : slot ≡ replicate (dirent_len_of v) 0 =
      same_number_lists slot (replicate (dirent_len_of v) 0) (s.long ∙ sym (length-replicate (dirent_len_of v) 0))
      (λ k h.
      let i : ℕ = k / 8 in
      let few : i < dirent_len_of v / 8 = omega (arith, s.long, are_words v) in
      zero_there k i (omega (arith, s.long)) refl (word_there i few ∙ all i few) ∙ sym (zeros_at (dirent_len_of v) k)) in
      ap is_free (ap (dirent_of v) zeros ∙ dirent_of-spell v Free tt)

  pub unclear_then : (i : ℕ) → i < dirent_len_of v / 8 → u64_at block (dirent_len_of v * p + 8 * i) ≢ 0 → is_free (dirent_at v p block) ≡ false
  unclear_then i h some = by_entry (dirent_at v p block) refl
    where
      by_entry : (o : Option Dirent) → dirent_at v p block ≡ o → is_free o ≡ false
      by_entry None e = refl
      by_entry (Some (Used n name)) e = refl
      by_entry (Some Free) e =
          let zeros : replicate (dirent_len_of v) 0 ≡ slot = spell-dirent_of v slot Free s.long s.fits e in
          absurd (some (sym (word_there i h) ∙ ap (λ (xs : List ℕ). u64_at xs (8 * i)) (sym zeros) ∙ no_word (dirent_len_of v) (8 * i)))

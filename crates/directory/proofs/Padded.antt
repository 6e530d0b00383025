-- Zeros after bytes: the bytes read alike, and so does a slot whose bytes are kept with zeros after them.
use Rattle.directory.proofs.Vocabulary.{◌≡◌, ℕ, zero, suc, ◌+◌, ◌-◌, ◌*◌, ◌<◌, ◌≤◌, ◌&&◌, not, if◌then◌else◌, List, [], ◌∷◌, ◌++◌, length, take, drop, get_or, replicate, refl, sym, ap, ◌∙◌, arith, ⊎_elim, cases_lt, append_assoc, length-append, length-replicate, take_at, take-append-le, drop-append-le, drop-replicate, replicate-append-replicate, get_or-append_right, get_or-drop, get_or_append_left, get_or_past, list_all, position_or_len, prefix_len-le-length, little_from, is_zero, name_of, free_of, used_of, dirent_of, record_at, u16_at, u64_at, all-zeros, position-zeros, Version, dirent_len_of, in_range, longest_dirent, kept, on_disk}
use Rattle.directory.proofs.OneSlot.{zeros_at}

-- ---- bytes and words

pub padded_at : (xs : List ℕ) (m i : ℕ) → get_or (xs ++ replicate m 0) i 0 ≡ get_or xs i 0
padded_at xs m i =
    ⊎_elim
    (λ (low : i < length xs). get_or_append_left xs (replicate m 0) 0 i low)
    (λ (high : length xs ≤ i). get_or-append_right xs (replicate m 0) (length xs) i 0 refl high ∙ zeros_at m (i - length xs) ∙ sym (get_or_past xs i 0 high))
    (cases_lt i (length xs))

-- the same bytes make the same number
alike_from : (n i : ℕ) (xs ys : List ℕ) → ((k : ℕ) → get_or xs k 0 ≡ get_or ys k 0) → little_from i n xs ≡ little_from i n ys
alike_from zero i xs ys same = refl
alike_from (suc n) i xs ys same = rw (same i, alike_from n (suc i) xs ys same) refl

module _ (xs : List ℕ) (m at : ℕ) where
  rest_alike : (k : ℕ) → get_or (drop at (xs ++ replicate m 0)) k 0 ≡ get_or (drop at xs) k 0
  rest_alike k = get_or-drop at (xs ++ replicate m 0) k 0 ∙ padded_at xs m (at + k) ∙ sym (get_or-drop at xs k 0)

  pub u64_padded : u64_at (xs ++ replicate m 0) at ≡ u64_at xs at
  unfolding u64_at
  u64_padded = alike_from 8 0 (drop at (xs ++ replicate m 0)) (drop at xs) rest_alike

  u16_padded : u16_at (xs ++ replicate m 0) at ≡ u16_at xs at
  unfolding u16_at
  u16_padded = alike_from 2 0 (drop at (xs ++ replicate m 0)) (drop at xs) rest_alike

-- ---- an entry

module _ (m : ℕ) where
  all_zero : (f : List ℕ) → list_all is_zero (f ++ replicate m 0) ≡ list_all is_zero f
  all_zero [] = all-zeros m
  all_zero (x ∷ f) = ap (λ b. is_zero x && b) (all_zero f)

  same_end : (f : List ℕ) → position_or_len is_zero (f ++ replicate m 0) ≡ position_or_len is_zero f
  same_end [] = position-zeros m
  same_end (x ∷ f) = ap (λ (n : ℕ). if not (is_zero x) then 1 + n else 0) (same_end f)

module _ (v : Version) (number : ℕ) (f : List ℕ) (m : ℕ) where
  abbrev end : ℕ
  end = position_or_len is_zero f

  end_within : end ≤ length f
  end_within = prefix_len-le-length (λ (x : ℕ). not (is_zero x)) f

  same_name : name_of (f ++ replicate m 0) ≡ name_of f
  same_name = ap (λ (n : ℕ). take n (f ++ replicate m 0)) (same_end m f) ∙ take-append-le end f (replicate m 0) end_within

  same_tail : list_all is_zero (drop (position_or_len is_zero (f ++ replicate m 0)) (f ++ replicate m 0)) ≡ list_all is_zero (drop end f)
  same_tail =
      ap (λ (n : ℕ). list_all is_zero (drop n (f ++ replicate m 0))) (same_end m f)
      ∙ ap (list_all is_zero) (drop-append-le end f (replicate m 0) end_within) ∙ all_zero m (drop end f)

  used_padded : used_of v number (f ++ replicate m 0) ≡ used_of v number f
  used_padded = rw (same_name, same_tail) refl

-- the field after the number
field_padded : (bytes : List ℕ) (m : ℕ) → (k : ℕ) × (drop 2 (bytes ++ replicate m 0) ≡ drop 2 bytes ++ replicate k 0)
field_padded [] m = (m - 2, drop-replicate 2 m 0)
field_padded (x ∷ []) m = (m - 1, drop-replicate 1 m 0)
field_padded (x ∷ y ∷ f) m = (m, refl)

entry_padded : (v : Version) (bytes : List ℕ) (m : ℕ) → dirent_of v (bytes ++ replicate m 0) ≡ dirent_of v bytes
entry_padded v bytes m =
    let field = field_padded bytes m in
    let number = u16_padded bytes m 0 in
    let free : free_of (drop 2 bytes ++ replicate field.0 0) ≡ free_of (drop 2 bytes) = rw (all_zero field.0 (drop 2 bytes)) refl in
    rw (number, field.1, free, used_padded v (u16_at bytes 0) (drop 2 bytes) field.0) refl

-- ---- what is kept for a slot

-- the first of some slots
pub first_slot : (v : Version) (bytes : List ℕ) → record_at (dirent_len_of v) 0 bytes ≡ on_disk v bytes
first_slot v bytes =
    let none : dirent_len_of v * 0 ≡ 0 = omega arith in
    ap (λ (n : ℕ). take (dirent_len_of v) (drop n bytes)) none

-- zeros in two rows
pub two_rows : (bytes : List ℕ) (n m k : ℕ) → k ≡ n + m → bytes ++ replicate k 0 ≡ (bytes ++ replicate n 0) ++ replicate m 0
two_rows bytes n m k e =
    ap (λ (i : ℕ). bytes ++ replicate i 0) e ∙ ap (λ (zs : List ℕ). bytes ++ zs) (sym (replicate-append-replicate n m 0))
    ∙ sym (append_assoc bytes (replicate n 0) (replicate m 0))

module _ (v : Version) (bytes : List ℕ) where
  pub on_disk_kept : length bytes ≡ dirent_len_of v → on_disk v (kept bytes) ≡ bytes
  on_disk_kept long = take_at bytes (replicate (longest_dirent - length bytes) 0) (dirent_len_of v) long

  pub read_kept : length bytes ≤ dirent_len_of v → dirent_of v (on_disk v (kept bytes)) ≡ dirent_of v bytes
  read_kept short =
      let len : ℕ = dirent_len_of v in
      let n : ℕ = len - length bytes in
      let m : ℕ = longest_dirent - len in
      let count : longest_dirent - length bytes ≡ n + m = omega (arith, (in_range v).3) in
      let two : kept bytes ≡ (bytes ++ replicate n 0) ++ replicate m 0 = two_rows bytes n m (longest_dirent - length bytes) count in
      let long : length (bytes ++ replicate n 0) ≡ len = omega (arith, length-append bytes (replicate n 0), length-replicate {A = ℕ} n 0) in
      ap (λ (xs : List ℕ). dirent_of v (take len xs)) two ∙ ap (dirent_of v) (take_at (bytes ++ replicate n 0) (replicate m 0) len long) ∙ entry_padded v bytes n

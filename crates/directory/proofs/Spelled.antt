-- The bytes of an entry, written one part after the other, and the words of a name.
use Rattle.directory.proofs.Vocabulary.{◌≡◌, ℕ, zero, suc, ◌+◌, ◌-◌, ◌*◌, ◌/◌, ◌%◌, ◌≤◌, List, [], ◌∷◌, ◌++◌, length, take, drop, replicate, sym, ap, ◌∙◌, arith, append_assoc, take_at, length-append, length-replicate, drop-replicate, little_bytes, length-u16_bytes, u16_bytes, Version, u64_at, AreWords, kept, on_disk, longest_dirent, longest_name, name_len_of, new_directory_size_of, dirent_len_of, in_range, spell_dirent, Used, dot, dotdot, dots}
use Rattle.directory.proofs.Padded.{on_disk_kept, two_rows, u64_padded}
use Rattle.directory.proofs.Words.{u64_at-drop}
use borrow.Rule.Slice.PartMut.{put_mid, post_of}

-- the low 16 bits of a number are spelled as the number is
low_bytes : (number : ℕ) → little_bytes 2 (number % 65536) ≡ little_bytes 2 number
low_bytes number =
    let low : number % 65536 % 256 ≡ number % 256 = omega arith in
    let high : number % 65536 / 256 % 256 ≡ number / 256 % 256 = omega arith in
    λ i. low i ∷ high i ∷ []

-- a name's field, and zeros up to the longest slot
padded : (v : Version) (number : ℕ) (name : List ℕ) → length name ≤ name_len_of v
    → u16_bytes number ++ (name ++ replicate (longest_name - length name) 0)
    ≡ kept (u16_bytes number ++ (name ++ replicate (name_len_of v - length name) 0))
padded v number name short =
    let n : ℕ = name_len_of v - length name in
    let field : List ℕ = name ++ replicate n 0 in
    let long : length (u16_bytes number ++ field) ≡ 2 + name_len_of v =
    omega (arith, length-append (u16_bytes number) field, length-u16_bytes number, length-append name (replicate n 0), length-replicate {A = ℕ} n 0) in
    let m : ℕ = longest_dirent - length (u16_bytes number ++ field) in
    let count : longest_name - length name ≡ n + m = omega (arith, (in_range v).1) in
    ap (λ (xs : List ℕ). u16_bytes number ++ xs) (two_rows name n m (longest_name - length name) count)
    ∙ sym (append_assoc (u16_bytes number) field (replicate m 0))

length-used : (v : Version) (number : ℕ) (name : List ℕ) → length name ≤ name_len_of v → length (spell_dirent v (Used number name)) ≡ dirent_len_of v
length-used v number name short =
    let n : ℕ = name_len_of v - length name in
    let pad : List ℕ = replicate n 0 in
    omega (arith, length-append (u16_bytes number) (name ++ pad), length-u16_bytes number, length-append name pad, length-replicate {A = ℕ} n 0)

pub spelled : (v : Version) (number : ℕ) (name buf part : List ℕ) → length name ≤ name_len_of v
    → buf ≡ little_bytes 2 (number % 65536) ++ drop 2 (replicate longest_dirent 0) → part ≡ name
    → on_disk v (put_mid 2 (2 + length name - 2) buf part) ≡ spell_dirent v (Used number name)
unfolding u16_bytes
spelled v number name buf part short written copied =
    let count : 2 + length name - 2 ≡ length name = omega arith in
    rw (written, copied, count)
    (ap (λ (bytes : List ℕ). on_disk v (bytes ++ (name ++ drop (length name) (replicate longest_name 0)))) (low_bytes number)
    ∙ ap (λ (xs : List ℕ). on_disk v (little_bytes 2 number ++ (name ++ xs))) (drop-replicate (length name) longest_name 0))
    ∙ ap (on_disk v) (padded v number name short) ∙ on_disk_kept v (spell_dirent v (Used number name)) (length-used v number name short)

-- a name in its slot, word by word
named_words : (name part : List ℕ) (k : ℕ) → part ≡ name → u64_at (put_mid 2 (2 + length name - 2) (replicate longest_dirent 0) part) (2 + k) ≡ u64_at name k
named_words name part k copied =
    let count : 2 + length name - 2 ≡ length name = omega arith in
    let rest : List ℕ = drop (length name) (replicate longest_name 0) in
    rw (copied, count)
    (sym (u64_at-drop (0 ∷ 0 ∷ (name ++ rest)) 2 k) ∙ ap (λ (zs : List ℕ). u64_at (name ++ zs) k) (drop-replicate (length name) longest_name 0)
    ∙ u64_padded name (longest_name - length name) k)

pub words_are : (name part : List ℕ) (a b d e : ℕ) → part ≡ name
    → let slot = put_mid 2 (2 + length name - 2) (replicate longest_dirent 0) part in
    a ≡ u64_at slot 2 → b ≡ u64_at slot 8 → d ≡ u64_at slot 16 → e ≡ u64_at slot 24 → AreWords (a ∷ b ∷ d ∷ e ∷ []) name
words_are name part a b d e copied w x y z zero h = w ∙ named_words name part 0 copied
words_are name part a b d e copied w x y z (suc zero) h = x ∙ named_words name part 6 copied
words_are name part a b d e copied w x y z (suc (suc zero)) h = y ∙ named_words name part 14 copied
words_are name part a b d e copied w x y z (suc (suc (suc zero))) h = z ∙ named_words name part 22 copied
words_are name part a b d e copied w x y z (suc (suc (suc (suc n)))) h = absurd (omega arith)

-- ---- the names of a new directory

-- an entry and then another, in a row that has room for both
in_front : (v : Version) (len : ℕ) (e d first rest second : List ℕ) → len ≡ dirent_len_of v → length e ≡ dirent_len_of v → length d ≡ dirent_len_of v
    → first ≡ e → second ≡ d → take (new_directory_size_of v) (put_mid len (2 * len - len) (first ++ rest) second) ≡ e ++ d
in_front v len e d first rest second width long_e long_d one two =
    let tail : List ℕ = post_of len (2 * len - len) (e ++ rest) in
    let long : length (e ++ d) ≡ new_directory_size_of v = omega (arith, length-append e d, long_e, long_d) in
    rw (one, two, take_at e rest len (long_e ∙ sym width))
    (ap (take (new_directory_size_of v)) (sym (append_assoc e d tail)) ∙ take_at (e ++ d) tail (new_directory_size_of v) long)

pub dots_in_front : (v : Version) (n parent len : ℕ) (first rest second : List ℕ) → len ≡ dirent_len_of v
    → first ≡ spell_dirent v (Used n dot) → second ≡ spell_dirent v (Used parent dotdot)
    → take (new_directory_size_of v) (put_mid len (2 * len - len) (first ++ rest) second) ≡ dots v n parent
dots_in_front v n parent len first rest second width one two =
    let short : 2 ≤ name_len_of v = omega (arith, (in_range v).0) in
    in_front v len (spell_dirent v (Used n dot)) (spell_dirent v (Used parent dotdot)) first rest second width
    (length-used v n dot (omega (arith, short))) (length-used v parent dotdot short) one two

pub dots_long : (v : Version) (n parent : ℕ) → length (dots v n parent) ≡ new_directory_size_of v
dots_long v n parent =
    let short : 2 ≤ name_len_of v = omega (arith, (in_range v).0) in
    let one : List ℕ = spell_dirent v (Used n dot) in
    let two : List ℕ = spell_dirent v (Used parent dotdot) in
    omega (arith, length-append one two, length-used v n dot (omega (arith, short)), length-used v parent dotdot short)

-- The root's bytes are its entries, spelled: those of the names, and free ones after them.
use Rattle.fs_layout.specs.Widths.{block_len}
use Rattle.mkfs.proofs.Vocabulary.{Version, dirent_len_of, dirents_per_block_of, name_len_of, nat_le, nat_tests, true, mul-suc, mul-zero, ◌≡◌, ◌≢◌, ℕ, zero, suc, ◌+◌, ◌-◌, ◌*◌, ◌/◌, ◌%◌, ◌^◌, ◌<◌, List, [], ◌∷◌, ◌++◌, length, take, drop, replicate, get_or, Some, refl, sym, ap, ◌∙◌, arith, length-append, All, flat_map, length-replicate, replicate-append-replicate, flat_map-append, All-append, All-cons, All-head, All-tail, All-nil, All-replicate, Dirent, Free, Used, IsName, spell_dirent, dirent_at, dirent_of, IsDirent, length-spell_dirent, dirent_of-spell, blocks_for, root_size, dot, dotdot, padded, whole, root_content, root_entries, entries_from}
use Rattle.image_versions.proofs.Places.{in_range, inside, in_their_blocks}
use Rattle.mkfs.proofs.RootSizes.{entries-fit, free-bytes}
use Rattle.mkfs.proofs.Padding.{length-whole}
use Rattle.mkfs.proofs.Pieces.{part-of-part, AreLong, length-records, record-there}

-- how many of the root's entries are free
abbrev pub free_entries : Version → ℕ → ℕ
free_entries v files = root_size v files / dirent_len_of v - (2 + files)

-- all entries of the root
abbrev pub all_entries : Version → List (List ℕ) → List Dirent
all_entries v names = root_entries names ++ replicate (free_entries v (length names)) Free

-- ---- each can be spelled

good-from : (v : Version) (number : ℕ) (names : List (List ℕ)) → number ≢ 0 → number + length names < 2 ^ 16 → All (IsName v) names → All (IsDirent v) (entries_from number names)
good-from v number [] some few h = All-nil (IsDirent v)
good-from v number (name ∷ names) some few h =
    let small : number < 2 ^ 16 = omega arith in
    All-cons (IsDirent v) (Used number name) (entries_from (number + 1) names) (some, small, All-head (IsName v) name names h)
    (good-from v (number + 1) names (λ e. absurd (omega arith)) (omega arith) (All-tail (IsName v) name names h))

not-zero : (n : ℕ) → suc n ≢ 0
not-zero n e = absurd (omega arith)

-- the names of the first two are not too long
dot-named : (v : Version) → IsName v dot
dot-named v =
    let short : nat_le 1 (name_len_of v) ≡ true = grind (arith, nat_tests, (in_range v).0) in
    rw short refl

dotdot-named : (v : Version) → IsName v dotdot
dotdot-named v =
    let short : nat_le 2 (name_len_of v) ≡ true = grind (arith, nat_tests, (in_range v).0) in
    rw short refl

good-root : (v : Version) (names : List (List ℕ)) → 2 + length names < 2 ^ 16 → All (IsName v) names → All (IsDirent v) (root_entries names)
good-root v names few h =
    let one : 1 < 2 ^ 16 = omega arith in
    let files : List Dirent = entries_from 2 names in
    All-cons (IsDirent v) (Used 1 dot) (Used 1 dotdot ∷ files) (not-zero 0, one, dot-named v)
    (All-cons (IsDirent v) (Used 1 dotdot) files (not-zero 0, one, dotdot-named v) (good-from v 2 names (not-zero 1) few h))

pub good-entries : (v : Version) (names : List (List ℕ)) → 2 + length names < 2 ^ 16 → All (IsName v) names → All (IsDirent v) (all_entries v names)
good-entries v names few h =
    let free : ℕ = free_entries v (length names) in
    All-append (IsDirent v) (root_entries names) (replicate free Free) (good-root v names few h) (All-replicate (IsDirent v) free Free tt)

pub length-from : (number : ℕ) (names : List (List ℕ)) → length (entries_from number names) ≡ length names
length-from number [] = refl
length-from number (name ∷ names) = ap suc (length-from (number + 1) names)

pub length-all : (v : Version) (names : List (List ℕ)) → length (all_entries v names) ≡ root_size v (length names) / dirent_len_of v
length-all v names =
    let free : ℕ = free_entries v (length names) in
    omega (arith, length-append (root_entries names) (replicate free Free), length-from 2 names, length-replicate free Free, entries-fit v (length names))

-- ---- their bytes

long-entries : (v : Version) (entries : List Dirent) → All (IsDirent v) entries → AreLong (spell_dirent v) (dirent_len_of v) entries
long-entries v entries h = λ i d l. length-spell_dirent v (get_or entries i d) (h i d l)

spelled-free : (v : Version) (n : ℕ) → flat_map (spell_dirent v) (replicate n Free) ≡ replicate (dirent_len_of v * n) 0
spelled-free v zero = let none : ℕ = 0 in ap (λ (k : ℕ). replicate k none) (sym (mul-zero (dirent_len_of v)))
spelled-free v (suc n) =
    let width : ℕ = dirent_len_of v in
    let swap : width + width * n ≡ width * n + width = omega arith in
    let count : width + width * n ≡ width * suc n = swap ∙ sym (mul-suc width n) in
    let none : ℕ = 0 in
    ap (λ (xs : List ℕ). replicate width 0 ++ xs) (spelled-free v n) ∙ replicate-append-replicate width (width * n) none ∙ ap (λ (k : ℕ). replicate k 0) count

length-used : (v : Version) (names : List (List ℕ)) → 2 + length names < 2 ^ 16 → All (IsName v) names → length (flat_map (spell_dirent v) (root_entries names)) ≡ dirent_len_of v * (2 + length names)
length-used v names few h =
    let entries : List Dirent = root_entries names in
    let count : length entries ≡ 2 + length names = omega (arith, length-from 2 names) in
    length-records (spell_dirent v) (dirent_len_of v) entries (long-entries v entries (good-root v names few h)) ∙ ap (λ (n : ℕ). dirent_len_of v * n) count

pub length-root_content : (v : Version) (names : List (List ℕ)) → 2 + length names < 2 ^ 16 → All (IsName v) names → length (root_content v names) ≡ root_size v (length names)
unfolding root_content
length-root_content v names few h = length-whole (flat_map (spell_dirent v) (root_entries names)) ∙ ap (λ (n : ℕ). block_len * blocks_for n) (length-used v names few h)

pub root-bytes : (v : Version) (names : List (List ℕ)) → 2 + length names < 2 ^ 16 → All (IsName v) names → root_content v names ≡ flat_map (spell_dirent v) (all_entries v names)
unfolding root_content whole padded
root-bytes v names few h =
    let free : ℕ = free_entries v (length names) in
    let used : List ℕ = flat_map (spell_dirent v) (root_entries names) in
    let zeros : block_len * blocks_for (length used) - length used ≡ dirent_len_of v * free =
    ap (λ (n : ℕ). block_len * blocks_for n - n) (length-used v names few h) ∙ free-bytes v (length names) in
    ap (λ (n : ℕ). used ++ replicate n 0) zeros
    ∙ ap (λ (xs : List ℕ). used ++ xs) (sym (spelled-free v free))
    ∙ sym (flat_map-append (spell_dirent v) (root_entries names) (replicate free Free))

-- ---- each is read back

-- in the blocks of spelled entries and what follows them
pub entry-there : (v : Version) (entries : List Dirent) (s : ℕ) (d : Dirent) (rest : List ℕ) → All (IsDirent v) entries → s < length entries
    → dirent_at v (s % dirents_per_block_of v) (take block_len (drop (block_len * (s / dirents_per_block_of v)) (flat_map (spell_dirent v) entries ++ rest))) ≡ Some (get_or entries s d)
entry-there v entries s d rest h l =
    let bytes : List ℕ = flat_map (spell_dirent v) entries ++ rest in
    let width : ℕ = dirent_len_of v in
    let here : ℕ = s % dirents_per_block_of v in
    let block : ℕ = s / dirents_per_block_of v in
    let stands = in_their_blocks v s in
    ap (dirent_of v) (part-of-part bytes width (width * here) block_len (block_len * block) (width * s) (inside v here stands.0) (sym stands.1) ∙ record-there (spell_dirent v) (dirent_len_of v) entries s d rest (long-entries v entries h) l)
    ∙ dirent_of-spell v (get_or entries s d) (h s d l)

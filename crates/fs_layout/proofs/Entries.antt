-- An entry and its bytes determine each other.
use Rattle.fs_layout.proofs.Vocabulary.{◌≡◌, ◌≢◌, ℕ, zero, suc, ◌+◌, ◌-◌, ◌*◌, ◌<◌, ◌≤◌, true, false, not, ⊎_elim, length-drop, eqb, ◌&&◌, nat_lt, nat_le, List, [], ◌∷◌, ◌++◌, length, take, drop, replicate, Some, None, refl, sym, ap, ◌∙◌, arith, append_assoc, length-append, take_at, drop_at, length-replicate, length-take-le, take-append-drop, drop-take, drop-drop, prefix_len-le-length, and_parts, ne_eqb, eqb-true, nat_tests, list_all, position_or_len, Dirent, Free, Used, u16_bytes, u16_at, overwrite, record_at, IsBytes, is_zero, is_name_byte, is_name, spell_dirent, dirent_of, used_of, free_of, name_of, dirent_at, IsDirent, IsName, IsAnyName, longest_name, Version, name_len_of, dirent_len_of}
use Rattle.image_versions.proofs.Places.{in_range}
use Rattle.fs_layout.proofs.Branches.{which_branch}
use Rattle.fs_layout.proofs.Overwrites.{then_overwrite, part-overwrite, record_at-overwrite}
use Rattle.fs_layout.proofs.Numbers.{u16_at-part, length-u16_bytes, u16_at-bytes, u16_bytes-at}

-- no byte of a name is zero
byte_not_zero : (x : ℕ) → is_name_byte x ≡ true → is_zero x ≡ false
byte_not_zero zero h = cc
byte_not_zero (suc n) h = ne_eqb (suc n) 0 (omega arith)

pub position-name : (name rest : List ℕ) → list_all is_name_byte name ≡ true → position_or_len is_zero (name ++ rest) ≡ length name + position_or_len is_zero rest
position-name [] rest h = omega arith
position-name (x ∷ xs) rest h =
    let parts = and_parts (is_name_byte x) (list_all is_name_byte xs) h in
    rw (byte_not_zero x parts.0) (omega (arith, position-name xs rest parts.1))

pub position-zeros : (n : ℕ) → position_or_len is_zero (replicate n 0) ≡ 0
position-zeros zero = refl
position-zeros (suc n) = refl

pub all-zeros : (n : ℕ) → list_all is_zero (replicate n 0) ≡ true
all-zeros zero = refl
all-zeros (suc n) = all-zeros n

-- only zeros are all zero
pub zeros-all : (xs : List ℕ) → list_all is_zero xs ≡ true → xs ≡ replicate (length xs) 0
zeros-all [] h = refl
zeros-all (zero ∷ xs) h = ap (λ (ys : List ℕ). 0 ∷ ys) (zeros-all xs h)
zeros-all (suc n ∷ xs) h =
    let p = and_parts (is_zero (suc n)) (list_all is_zero xs) h in
    let e : suc n ≡ 0 = eqb-true (suc n) 0 p.0 in
    absurd (omega arith)

-- what a name is
pub record NameParts (v : Version) (name : List ℕ) : Type 0 where
  pub low : 0 < length name
  pub high : length name ≤ name_len_of v
  pub bytes : list_all is_name_byte name ≡ true

pub name_parts : (v : Version) (name : List ℕ) → is_name v name ≡ true → NameParts v name
name_parts v name h =
    let p = and_parts (nat_lt 0 (length name) && nat_le (length name) (name_len_of v)) (list_all is_name_byte name) h in
    let q = and_parts (nat_lt 0 (length name)) (nat_le (length name) (name_len_of v)) p.0 in
    record { low = grind (arith, nat_tests, q.0); high = grind (arith, nat_tests, q.1); bytes = p.1 }

-- a name of this version is one of some version
pub any_name : (v : Version) (name : List ℕ) → IsName v name → IsAnyName name
any_name v name h =
    let n = name_parts v name h in
    let low : nat_lt 0 (length name) ≡ true = grind (arith, nat_tests, n.low) in
    let within : length name ≤ longest_name = omega (arith, n.high, (in_range v).1) in
    let high : nat_le (length name) longest_name ≡ true = grind (arith, nat_tests, within) in
    rw (low, high, n.bytes) refl

-- the entry's bytes are the number's and the field's
pub entry_width : (v : Version) → dirent_len_of v ≡ suc (suc (name_len_of v))
entry_width v = omega arith

pub length-spell_dirent : (v : Version) (d : Dirent) → IsDirent v d → length (spell_dirent v d) ≡ dirent_len_of v
length-spell_dirent v Free h = length-replicate (dirent_len_of v) 0
length-spell_dirent v (Used number name) h =
    let n = name_parts v name (h.2) in
    simp (length-append, length-u16_bytes, length-replicate) (omega (arith, n.high))

-- two or more zeros are a free slot
free_of-zeros : (v : Version) (n : ℕ) → dirent_of v (replicate (suc (suc n)) 0) ≡ Some Free
unfolding u16_at
free_of-zeros v n = rw (all-zeros n) refl

pub dirent_of-spell : (v : Version) (d : Dirent) → IsDirent v d → dirent_of v (spell_dirent v d) ≡ Some d
dirent_of-spell v Free h = ap (λ (n : ℕ). dirent_of v (replicate n 0)) (entry_width v) ∙ free_of-zeros v (name_len_of v)
dirent_of-spell v (Used number name) h =
    let yes = h.2 in
    let n = name_parts v name yes in
    let pad : List ℕ = replicate (name_len_of v - length name) 0 in
    let field : List ℕ = name ++ pad in
    let first : u16_at (u16_bytes number ++ field) 0 ≡ number = u16_at-bytes number field h.1 in
    let behind : drop 2 (u16_bytes number ++ field) ≡ field = drop_at (u16_bytes number) field 2 (length-u16_bytes number) in
    let long : position_or_len is_zero field ≡ length name = position-name name pad n.bytes ∙ omega (arith, position-zeros (name_len_of v - length name)) in
    let front : take (length name) field ≡ name = take_at name pad (length name) refl in
    let rest : drop (length name) field ≡ pad = drop_at name pad (length name) refl in
    let used : used_of v number field ≡ Some (Used number name) = rw (long, front, rest, yes, all-zeros (name_len_of v - length name)) refl in
    rw (first, behind, ne_eqb number 0 h.0) used

-- the three writes of a used entry
pub wrote_used : (v : Version) (b0 b1 b2 b3 name : List ℕ) (number at : ℕ) → at ≤ length b0
    → b1 ≡ overwrite b0 at (u16_bytes number)
    → b2 ≡ overwrite b1 (at + 2) name
    → b3 ≡ overwrite b2 (at + 2 + length name) (replicate (name_len_of v - length name) 0)
    → b3 ≡ overwrite b0 at (u16_bytes number ++ (name ++ replicate (name_len_of v - length name) 0))
wrote_used v b0 b1 b2 b3 name number at h e1 e2 e3 =
    let l = length-u16_bytes number in
    let x2 = then_overwrite b0 b1 b2 (u16_bytes number) name at (at + 2) e1 e2 (omega arith) h in
    let x3 = then_overwrite b0 b2 b3 (u16_bytes number ++ name) (replicate (name_len_of v - length name) 0) at (at + 2 + length name) x2 e3 (omega (arith, length-append (u16_bytes number) name)) h in
    x3 ∙ ap (overwrite b0 at) (append_assoc (u16_bytes number) name (replicate (name_len_of v - length name) 0))

-- what a write of an entry means
pub reads_back : (v : Version) (old new : List ℕ) (place : ℕ) (d : Dirent) → dirent_len_of v * place ≤ length old → IsDirent v d
    → new ≡ overwrite old (dirent_len_of v * place) (spell_dirent v d)
    → dirent_at v place new ≡ Some d
reads_back v old new place d h is e =
    ap (dirent_at v place) e ∙ ap (dirent_of v) (part-overwrite old (spell_dirent v d) (dirent_len_of v * place) (dirent_len_of v) h (length-spell_dirent v d is))
    ∙ dirent_of-spell v d is

pub others_stay : (v : Version) (old new : List ℕ) (place q : ℕ) (d : Dirent) → dirent_len_of v * place ≤ length old → IsDirent v d → q ≢ place
    → new ≡ overwrite old (dirent_len_of v * place) (spell_dirent v d)
    → dirent_at v q new ≡ dirent_at v q old
others_stay v old new place q d h is ne e =
    ap (dirent_at v q) e ∙ ap (dirent_of v) (record_at-overwrite (dirent_len_of v) place q old (spell_dirent v d) (length-spell_dirent v d is) h ne)

-- the field of a name within its block
pub field-part : (v : Version) (block : List ℕ) (place at len : ℕ) → at ≡ dirent_len_of v * place → len ≡ dirent_len_of v
    → drop 2 (record_at (dirent_len_of v) place block) ≡ take (at + len - (at + 2)) (drop (at + 2) block)
field-part v block place at len e w =
    let n : ℕ = name_len_of v in
    let size : n ≡ at + len - (at + 2) = omega arith in
    drop-take 2 n (drop (dirent_len_of v * place) block) ∙ ap (take n) (drop-drop 2 (dirent_len_of v * place) block)
    ∙ ap (λ (i : ℕ). take n (drop (i + 2) block)) (sym e) ∙ ap (λ (m : ℕ). take m (drop (at + 2) block)) size

-- what is read is spelled so
spelled_free : (v : Version) (bytes : List ℕ) (d : Dirent) → length bytes ≡ dirent_len_of v → IsBytes bytes → u16_at bytes 0 ≡ 0 → free_of (drop 2 bytes) ≡ Some d
    → spell_dirent v d ≡ bytes
unfolding u16_bytes
spelled_free v bytes d l fits z h =
    let size : length (drop 2 bytes) ≡ name_len_of v = omega (arith, length-drop 2 bytes) in
    ⊎_elim
    (λ (t : (list_all is_zero (drop 2 bytes) ≡ true) × (Some Free ≡ Some d)).
    let is : d ≡ Free = let e = t.1 in cc in
    let zeros : drop 2 bytes ≡ replicate (name_len_of v) 0 = zeros-all (drop 2 bytes) t.0 ∙ ap (λ (n : ℕ). replicate n 0) size in
    let all = u16_bytes-at bytes 0 (omega arith) fits in
    let wide : u16_bytes 0 ++ replicate (name_len_of v) 0 ≡ bytes = rw (z, zeros) at all in
    rw (is, entry_width v) wide)
    (λ (f : (list_all is_zero (drop 2 bytes) ≡ false) × (None ≡ Some d)). let e = f.1 in cc)
    (which_branch (list_all is_zero (drop 2 bytes)) (Some Free) None (Some d) h)

spelled_used : (v : Version) (bytes : List ℕ) (d : Dirent) → length bytes ≡ dirent_len_of v → IsBytes bytes → used_of v (u16_at bytes 0) (drop 2 bytes) ≡ Some d
    → spell_dirent v d ≡ bytes
spelled_used v bytes d l fits h =
    let field : List ℕ = drop 2 bytes in
    let n : ℕ = position_or_len is_zero field in
    let within : n ≤ length field = prefix_len-le-length (λ (x : ℕ). not (is_zero x)) field in
    let short : length (take n field) ≡ n = length-take-le n field within in
    let size : length field ≡ name_len_of v = omega (arith, length-drop 2 bytes) in
    let left : length (drop n field) ≡ name_len_of v - length (name_of field) = omega (arith, length-drop n field) in
    ⊎_elim
    (λ (t : ((is_name v (name_of field) && list_all is_zero (drop n field)) ≡ true) × (Some (Used (u16_at bytes 0) (name_of field)) ≡ Some d)).
    let is : d ≡ Used (u16_at bytes 0) (name_of field) = let e = t.1 in cc in
    let p = and_parts (is_name v (name_of field)) (list_all is_zero (drop n field)) t.0 in
    let pad : replicate (name_len_of v - length (name_of field)) 0 ≡ drop n field = sym (zeros-all (drop n field) p.1 ∙ ap (λ (k : ℕ). replicate k 0) left) in
    ap (spell_dirent v) is ∙ ap (λ (xs : List ℕ). u16_bytes (u16_at bytes 0) ++ (name_of field ++ xs)) pad
    ∙ ap (λ (xs : List ℕ). u16_bytes (u16_at bytes 0) ++ xs) (take-append-drop n field)
    ∙ u16_bytes-at bytes 0 (omega arith) fits)
    (λ (f : ((is_name v (name_of field) && list_all is_zero (drop n field)) ≡ false) × (None ≡ Some d)). let e = f.1 in cc)
    (which_branch (is_name v (name_of field) && list_all is_zero (drop n field)) (Some (Used (u16_at bytes 0) (name_of field))) None (Some d) h)

pub spell-dirent_of : (v : Version) (bytes : List ℕ) (d : Dirent) → length bytes ≡ dirent_len_of v → IsBytes bytes → dirent_of v bytes ≡ Some d
    → spell_dirent v d ≡ bytes
spell-dirent_of v bytes d l fits h =
    ⊎_elim
    (λ (t : (eqb (u16_at bytes 0) 0 ≡ true) × (free_of (drop 2 bytes) ≡ Some d)). spelled_free v bytes d l fits (eqb-true (u16_at bytes 0) 0 t.0) t.1)
    (λ (f : (eqb (u16_at bytes 0) 0 ≡ false) × (used_of v (u16_at bytes 0) (drop 2 bytes) ≡ Some d)). spelled_used v bytes d l fits f.1)
    (which_branch (eqb (u16_at bytes 0) 0) (free_of (drop 2 bytes)) (used_of v (u16_at bytes 0) (drop 2 bytes)) (Some d) h)

-- the number of an entry within its block
pub number-part : (v : Version) (block : List ℕ) (place : ℕ) → u16_at (record_at (dirent_len_of v) place block) 0 ≡ u16_at block (dirent_len_of v * place)
number-part v block place =
    let at : ℕ = dirent_len_of v * place in
    let same : at + 0 ≡ at = omega arith in
    u16_at-part block at (dirent_len_of v) 0 (omega arith) ∙ ap (u16_at block) same

-- Records that are numbers of four bytes, one after the other: superblock, head of the log, indirect block.
use Rattle.fs_layout.proofs.Vocabulary.{◌≡◌, ◌≢◌, ℕ, suc, ◌+◌, ◌*◌, ◌^◌, ◌<◌, ◌≤◌, nat_le, zero, true, false, cond, eqb, List, [], ◌∷◌, ◌++◌, length, drop, get_or, set, length-set, refl, sym, ap, ◌∙◌, ⊎_elim, arith, Some, None, Option, Bool, append-nil, ext_get_or, get_or-set_same, get_or-set_other, drop_all, cases_eq, eq-eqb, eqb-true, nat_tests, flat_map, AllByRecursion, Super, LogHead, overwrite, record_at, u32_bytes, u32_at, u32s_at, IsBytes, super_numbers, spell_super, super_fields, super_of, IsSuper, Version, One, magic_of, unwrap_or, version_of_magic, IsSome, is_some, ◌↔◌, spell_log_head, head_numbers, log_head, log_head_of, numbers_in, spell_numbers}
use Rattle.image_versions.proofs.Places.{in_range, magics_tell, magics_only}
use Rattle.fs_layout.proofs.Branches.{which_branch}
use Rattle.fs_layout.proofs.Overwrites.{part-overwrite, record_at-overwrite}
use Rattle.fs_layout.proofs.Numbers.{length-u32_bytes, length-u32s_bytes, u32_at-part, u32_at-bytes, u32s_at-bytes, u32s_bytes-at, length-u32s_at}

-- what is at the head of a block after a write there
pub front-overwrite : (block bytes : List ℕ) → overwrite block 0 bytes ≡ bytes ++ drop (length bytes) block
front-overwrite block bytes = let e : 0 + length bytes ≡ length bytes = omega arith in ap (λ (n : ℕ). bytes ++ drop n block) e

-- ---- the superblock

eight : (bytes : List ℕ)
    → u32s_at 8 bytes 0
    ≡ u32_at bytes 0 ∷ u32_at bytes 4 ∷ u32_at bytes 8 ∷ u32_at bytes 12 ∷ u32_at bytes 16 ∷ u32_at bytes 20 ∷ u32_at bytes 24 ∷ u32_at bytes 28 ∷ []
unfolding u32s_at
eight bytes = refl

pub super_of-numbers : (v : Version) (bytes : List ℕ) (s : Super) → s.version ≡ v → u32s_at 8 bytes 0 ≡ magic_of v ∷ super_numbers s → super_of v bytes ≡ Some s
super_of-numbers v bytes s same e =
    let at : (k : ℕ) → get_or (u32s_at 8 bytes 0) k 0 ≡ get_or (magic_of v ∷ super_numbers s) k 0 = (λ k. ap (λ (xs : List ℕ). get_or xs k 0) e) in
    let f : (k : ℕ) → get_or (u32_at bytes 0 ∷ u32_at bytes 4 ∷ u32_at bytes 8 ∷ u32_at bytes 12 ∷ u32_at bytes 16 ∷ u32_at bytes 20 ∷ u32_at bytes 24 ∷ u32_at bytes 28 ∷ []) k 0 ≡ get_or (magic_of v ∷ super_numbers s) k 0 =
    (λ k. ap (λ (xs : List ℕ). get_or xs k 0) (sym (eight bytes)) ∙ at k) in
    let says : unwrap_or (version_of_magic (magic_of v)) One ≡ s.version = ap (λ (o : Option Version). unwrap_or o One) (magics_tell v) ∙ sym same in
    rw (f 0, f 1, f 2, f 3, f 4, f 5, f 6, f 7, eq-eqb (magic_of v) (magic_of v) refl, says) refl

pub super_of-spell : (s : Super) (rest : List ℕ) → IsSuper s → super_of s.version (spell_super s ++ rest) ≡ Some s
super_of-spell s rest h =
    let m : magic_of s.version < 2 ^ 32 = (in_range s.version).7 in
    super_of-numbers s.version (spell_super s ++ rest) s refl (u32s_at-bytes (magic_of s.version ∷ super_numbers s) rest (m, h))

-- the magic number of a version says it
pub fields-version : (v : Version) (block : List ℕ) → u32_at block 0 ≡ magic_of v → (super_fields block).version ≡ v
fields-version v block e =
    ap (λ (magic : ℕ). unwrap_or (version_of_magic magic) One) e ∙ ap (λ (o : Option Version). unwrap_or o One) (magics_tell v)

pub spell-super_of : (v : Version) (bytes : List ℕ) (s : Super) → length bytes ≡ 32 → IsBytes bytes → super_of v bytes ≡ Some s → spell_super s ≡ bytes
spell-super_of v bytes s l fits h =
    ⊎_elim
    (λ (t : (eqb (u32_at bytes 0) (magic_of v) ≡ true) × (Some (super_fields bytes) ≡ Some s)).
    let is : s ≡ super_fields bytes = let e = t.1 in cc in
    let first : magic_of (super_fields bytes).version ≡ u32_at bytes 0 =
    ap magic_of (fields-version v bytes (eqb-true (u32_at bytes 0) (magic_of v) t.0)) ∙ sym (eqb-true (u32_at bytes 0) (magic_of v) t.0) in
    let row : magic_of (super_fields bytes).version ∷ super_numbers (super_fields bytes) ≡ u32s_at 8 bytes 0 =
    ap (λ (n : ℕ). n ∷ super_numbers (super_fields bytes)) first ∙ sym (eight bytes) in
    ap spell_super is ∙ ap (flat_map u32_bytes) row ∙ u32s_bytes-at 8 bytes 0 (omega arith) fits)
    (λ (f : (eqb (u32_at bytes 0) (magic_of v) ≡ false) × (None ≡ Some s)). let e = f.1 in cc)
    (which_branch (eqb (u32_at bytes 0) (magic_of v)) (Some (super_fields bytes)) None (Some s) h)

-- there is a choice exactly if the test holds
some_if : {T : Type 0} (b : Bool) (x : T) → IsSome (cond b (Some x) None) → b ≡ true
some_if true x h = refl
some_if false x h = cc

-- the magic number says whose superblock it is
pub super_of-version : (v : Version) (block : List ℕ) → IsSome (super_of v block) ↔ (version_of_magic (u32_at block 0) ≡ Some v)
super_of-version v block =
    let m : ℕ = u32_at block 0 in (
      λ (there : IsSome (super_of v block)).
          let is : m ≡ magic_of v = eqb-true m (magic_of v) (some_if (eqb m (magic_of v)) (super_fields block) there) in
          ap version_of_magic is ∙ magics_tell v,
      λ (tells : version_of_magic m ≡ Some v).
          ap (λ (b : Bool). is_some (cond b (Some (super_fields block)) None)) (eq-eqb m (magic_of v) (magics_only m v tells)),
    )

-- a superblock that was read as a version's has that version
pub super_of-has : (v : Version) (block : List ℕ) (s : Super) → super_of v block ≡ Some s → s.version ≡ v
super_of-has v block s h =
    ⊎_elim
    (λ (t : (eqb (u32_at block 0) (magic_of v) ≡ true) × (Some (super_fields block) ≡ Some s)).
    let is : s ≡ super_fields block = let e = t.1 in cc in
    ap (λ (x : Super). x.version) is ∙ fields-version v block (eqb-true (u32_at block 0) (magic_of v) t.0))
    (λ (f : (eqb (u32_at block 0) (magic_of v) ≡ false) × (None ≡ Some s)). let e = f.1 in cc)
    (which_branch (eqb (u32_at block 0) (magic_of v)) (Some (super_fields block)) None (Some s) h)

-- ---- the head of the log

head_row : (n : ℕ) (bytes : List ℕ) → u32s_at (suc n) bytes 0 ≡ u32_at bytes 0 ∷ u32s_at n bytes 4
unfolding u32s_at
head_row n bytes = refl

pub head_count-spell : (blocks rest : List ℕ) → length blocks < 2 ^ 32 → AllByRecursion (λ n. n < 2 ^ 32) blocks → u32_at (spell_log_head blocks ++ rest) 0 ≡ length blocks
head_count-spell blocks rest l h =
    let block : List ℕ = spell_log_head blocks ++ rest in
    ap (λ (xs : List ℕ). get_or xs 0 0) (sym (head_row (length blocks) block) ∙ u32s_at-bytes (length blocks ∷ blocks) rest (l, h))

pub head_numbers-spell : (blocks rest : List ℕ) → length blocks < 2 ^ 32 → AllByRecursion (λ n. n < 2 ^ 32) blocks → head_numbers (spell_log_head blocks ++ rest) ≡ blocks
head_numbers-spell blocks rest l h =
    let block : List ℕ = spell_log_head blocks ++ rest in
    let others : u32s_at (length blocks) block 4 ≡ blocks =
    ap (λ (xs : List ℕ). drop 1 xs) (sym (head_row (length blocks) block) ∙ u32s_at-bytes (length blocks ∷ blocks) rest (l, h)) in
    ap (λ (n : ℕ). u32s_at n block 4) (head_count-spell blocks rest l h) ∙ others

pub log_head_of-spell : (blocks rest : List ℕ) → length blocks ≤ 255 → AllByRecursion (λ n. n < 2 ^ 32) blocks → log_head_of (spell_log_head blocks ++ rest) ≡ Some (log_head blocks)
log_head_of-spell blocks rest l h =
    let block : List ℕ = spell_log_head blocks ++ rest in
    let count : u32_at block 0 ≡ length blocks = head_count-spell blocks rest (omega arith) h in
    let small : nat_le (u32_at block 0) 255 ≡ true = grind (arith, nat_tests, count, l) in
    let numbers : head_numbers block ≡ blocks = head_numbers-spell blocks rest (omega arith) h in
    ap (λ (b : Bool). cond b (Some (log_head (head_numbers block))) None) small ∙ ap (λ (xs : List ℕ). Some (log_head xs)) numbers

-- the block numbers in a head
named : Option LogHead → List ℕ
named None = []
named (Some h) = h.blocks.items

pub spell-log_head_of : (bytes blocks : List ℕ) → length bytes ≡ 4 + 4 * length blocks → IsBytes bytes → log_head_of bytes ≡ Some (log_head blocks) → spell_log_head blocks ≡ bytes
unfolding named
spell-log_head_of bytes blocks l fits h =
    ⊎_elim
    (λ (t : (nat_le (u32_at bytes 0) 255 ≡ true) × (Some (log_head (head_numbers bytes)) ≡ Some (log_head blocks))).
    let is : head_numbers bytes ≡ blocks = ap named t.1 in
    let count : u32_at bytes 0 ≡ length blocks = sym (length-u32s_at (u32_at bytes 0) bytes 4) ∙ ap (λ (xs : List ℕ). length xs) is in
    let row : u32s_at (suc (length blocks)) bytes 0 ≡ length blocks ∷ blocks =
    head_row (length blocks) bytes ∙ ap (λ (n : ℕ). u32_at bytes 0 ∷ u32s_at n bytes 4) (sym count) ∙ ap (λ (xs : List ℕ). u32_at bytes 0 ∷ xs) is
    ∙ ap (λ (n : ℕ). n ∷ blocks) count in
    ap (flat_map u32_bytes) (sym row) ∙ u32s_bytes-at (suc (length blocks)) bytes 0 (omega arith) fits)
    (λ (f : (nat_le (u32_at bytes 0) 255 ≡ false) × (None ≡ Some (log_head blocks))). let e = f.1 in cc)
    (which_branch (nat_le (u32_at bytes 0) 255) (Some (log_head (head_numbers bytes))) None (Some (log_head blocks)) h)

-- ---- the numbers of an indirect block

-- the number at a place of a row of numbers
pub get_or-u32s_at : (c : ℕ) (bytes : List ℕ) (at k : ℕ) → k < c → get_or (u32s_at c bytes at) k 0 ≡ u32_at bytes (at + 4 * k)
unfolding u32s_at
get_or-u32s_at zero bytes at k h = absurd (omega arith)
get_or-u32s_at (suc c) bytes at zero h = let e : at ≡ at + 4 * 0 = omega arith in ap (u32_at bytes) e
get_or-u32s_at (suc c) bytes at (suc k) h =
    let e : at + 4 + 4 * k ≡ at + 4 * suc k = omega arith in
    get_or-u32s_at c bytes (at + 4) k (omega arith) ∙ ap (u32_at bytes) e

-- it is the record of four bytes there
own_bytes : (bytes : List ℕ) (k : ℕ) → u32_at bytes (0 + 4 * k) ≡ u32_at (record_at 4 k bytes) 0
own_bytes bytes k =
    let e : 0 + 4 * k ≡ 4 * k + 0 = omega arith in
    ap (u32_at bytes) e ∙ sym (u32_at-part bytes (4 * k) 4 0 (omega arith))

-- one number written
pub u32s_at-write : (c : ℕ) (bytes : List ℕ) (k n : ℕ) → k < c → 4 * c ≤ length bytes → n < 2 ^ 32
    → u32s_at c (overwrite bytes (4 * k) (u32_bytes n)) 0 ≡ set (u32s_at c bytes 0) k n
u32s_at-write c bytes k n h l fits =
    let new : List ℕ = overwrite bytes (4 * k) (u32_bytes n) in
    let many : length (u32s_at c new 0) ≡ c = length-u32s_at c new 0 in
    let before : length (u32s_at c bytes 0) ≡ c = length-u32s_at c bytes 0 in
    let written : u32_at (record_at 4 k new) 0 ≡ n =
    ap (λ (xs : List ℕ). u32_at xs 0) (part-overwrite bytes (u32_bytes n) (4 * k) 4 (omega arith) (length-u32_bytes n) ∙ sym (append-nil (u32_bytes n)))
    ∙ u32_at-bytes n [] fits in
    ext_get_or 0 (u32s_at c new 0) (set (u32s_at c bytes 0) k n) (omega (arith, many, before, length-set (u32s_at c bytes 0) k n))
    (λ i within.
    get_or-u32s_at c new 0 i (omega (arith, many)) ∙ own_bytes new i
    ∙ ⊎_elim
    (λ (e : i ≡ k). rw (e, written, get_or-set_same (u32s_at c bytes 0) k n 0 (omega (arith, before))) refl)
    (λ (ne : i ≢ k).
    ap (λ (xs : List ℕ). u32_at xs 0) (record_at-overwrite 4 k i bytes (u32_bytes n) (length-u32_bytes n) (omega arith) ne)
    ∙ sym (own_bytes bytes i) ∙ sym (get_or-u32s_at c bytes 0 i (omega (arith, many)))
    ∙ sym (get_or-set_other (u32s_at c bytes 0) k i n 0 ne))
    (cases_eq i k))

pub numbers_in-spell : (numbers : List ℕ) → length numbers ≡ 256 → AllByRecursion (λ n. n < 2 ^ 32) numbers → numbers_in (spell_numbers numbers) ≡ numbers
numbers_in-spell numbers l h =
    ap (λ (n : ℕ). u32s_at n (spell_numbers numbers) 0) (sym l)
    ∙ ap (λ (bs : List ℕ). u32s_at (length numbers) bs 0) (sym (append-nil (spell_numbers numbers)))
    ∙ u32s_at-bytes numbers [] h

pub spell-numbers_in : (bytes : List ℕ) → length bytes ≡ 1024 → IsBytes bytes → spell_numbers (numbers_in bytes) ≡ bytes
spell-numbers_in bytes l fits = u32s_bytes-at 256 bytes 0 (omega arith) fits

-- all numbers written
pub whole-overwrite : (block numbers : List ℕ) → length block ≡ 1024 → length numbers ≡ 256 → overwrite block 0 (spell_numbers numbers) ≡ spell_numbers numbers
whole-overwrite block numbers l n =
    let none : drop (length (spell_numbers numbers)) block ≡ [] = drop_all (length (spell_numbers numbers)) block (omega (arith, length-u32s_bytes numbers)) in
    front-overwrite block (spell_numbers numbers) ∙ ap (λ (xs : List ℕ). spell_numbers numbers ++ xs) none ∙ append-nil (spell_numbers numbers)

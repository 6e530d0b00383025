-- Laws of the recovered disk, one fact each.
use Rattle.fs_layout.proofs.Vocabulary.{◌≡◌, ◌≢◌, ◌⊎◌, ⊎_elim, inl, inr, ℕ, zero, suc, ◌+◌, ◌^◌, ◌<◌, ◌≤◌, ◌==◌, nat_lt, Bool, true, false, cond, List, [], ◌∷◌, length, drop, get_or, set, refl, sym, ap, ◌∙◌, arith, Some, None, AllByRecursion, position_or_len, option_map_or, position_or_len_is, passes_at_first, fails_before_first, eq-eqb, ne_eqb, eqb-true, eqb-false, cases_lt, nat_tests, block_at-set_other, overwrite, u32s_at, spell_log_head, head_numbers, Super, super_fields, block_at, sizes_of, log_head_at, log_count, logged, place_of, overlay, recovered}
use Rattle.fs_layout.proofs.Numbers.{length-u32s_at}
use Rattle.fs_layout.proofs.Words.{front-overwrite, head_numbers-spell}

-- ---- the places of a block's recovered bytes

pub place_of-none : (start : ℕ) (blocks : List ℕ) (b : ℕ) → ((k : ℕ) → k < length blocks → get_or blocks k 0 ≢ b) → place_of start blocks b ≡ b
place_of-none start blocks b others =
    let p : ℕ → Bool = λ x. x == b in
    let past : position_or_len p blocks ≡ length blocks =
    position_or_len_is p blocks (length blocks) 0 (omega arith) (λ k h. ne_eqb (get_or blocks k 0) b (others k h)) (λ h. absurd (omega arith)) in
    let never : nat_lt (position_or_len p blocks) (length blocks) ≡ false = grind (arith, nat_tests, past) in
    ap (λ (t : Bool). option_map_or (λ i. start + 1 + i) (cond t (Some (position_or_len p blocks)) None) b) never

pub place_of-first : (start : ℕ) (blocks : List ℕ) (b i : ℕ) → i < length blocks → get_or blocks i 0 ≡ b → ((k : ℕ) → k < i → get_or blocks k 0 ≢ b)
    → place_of start blocks b ≡ start + 1 + i
place_of-first start blocks b i h is before =
    let p : ℕ → Bool = λ x. x == b in
    let here : position_or_len p blocks ≡ i =
    position_or_len_is p blocks i 0 (omega arith) (λ k l. ne_eqb (get_or blocks k 0) b (before k l)) (λ l. eq-eqb (get_or blocks i 0) b is) in
    let found : nat_lt (position_or_len p blocks) (length blocks) ≡ true = grind (arith, nat_tests, here, h) in
    ap (λ (t : Bool). option_map_or (λ i. start + 1 + i) (cond t (Some (position_or_len p blocks)) None) b) found ∙ ap (λ (n : ℕ). start + 1 + n) here

-- the first copy of block b is the i-th
pub record IsFirstCopy (blocks : List ℕ) (b i : ℕ) : Type 0 where
  pub within : i < length blocks
  pub is : get_or blocks i 0 ≡ b
  pub before : (k : ℕ) → k < i → get_or blocks k 0 ≢ b

-- there is a first copy, or none
pub first_copy : (blocks : List ℕ) (b : ℕ) → ((i : ℕ) × IsFirstCopy blocks b i) ⊎ ((k : ℕ) → k < length blocks → get_or blocks k 0 ≢ b)
first_copy blocks b =
    let p : ℕ → Bool = λ x. x == b in
    let i : ℕ = position_or_len p blocks in
    let differs : (k : ℕ) → k < i → get_or blocks k 0 ≢ b = (λ k h. eqb-false (get_or blocks k 0) b (fails_before_first p blocks k 0 h)) in
    ⊎_elim
    (λ (h : i < length blocks). inl (i, record { within = h; is = eqb-true (get_or blocks i 0) b (passes_at_first p blocks 0 h); before = differs }))
    (λ (h : length blocks ≤ i). inr (λ k l. differs k (omega arith)))
    (cases_lt i (length blocks))

-- a block's bytes are at its own place or at that of a copy
pub place_of_cases : (start : ℕ) (blocks : List ℕ) (b : ℕ)
    → (place_of start blocks b ≡ b) ⊎ ((i : ℕ) × (i < length blocks) × (get_or blocks i 0 ≡ b) × (place_of start blocks b ≡ start + 1 + i))
place_of_cases start blocks b =
    ⊎_elim
    (λ (f : (i : ℕ) × IsFirstCopy blocks b i). inr (f.0, f.1.within, f.1.is, place_of-first start blocks b f.0 f.1.within f.1.is f.1.before))
    (λ (n : (k : ℕ) → k < length blocks → get_or blocks k 0 ≢ b). inl (place_of-none start blocks b n))
    (first_copy blocks b)

-- ---- the overlay, copy by copy

pub overlay-none : (disk : List (List ℕ)) (start b : ℕ) → overlay disk start [] b ≡ block_at disk b
overlay-none disk start b = refl

pub overlay-same : (disk : List (List ℕ)) (start b : ℕ) (blocks : List ℕ) → overlay disk start (b ∷ blocks) b ≡ block_at disk (start + 1)
overlay-same disk start b blocks =
    let own : start + 1 + 0 ≡ start + 1 = omega arith in
    ap (block_at disk) (place_of-first start (b ∷ blocks) b 0 (omega arith) refl (λ k h. absurd (omega arith)) ∙ own)

-- one more block in front that is another
first_before : (k b : ℕ) (blocks : List ℕ) (n : ℕ) → k ≢ b → ((j : ℕ) → j < n → get_or blocks j 0 ≢ b) → (j : ℕ) → j < suc n → get_or (k ∷ blocks) j 0 ≢ b
first_before k b blocks n ne before zero h = ne
first_before k b blocks n ne before (suc j) h = before j (omega arith)

pub overlay-other : (disk : List (List ℕ)) (start b k : ℕ) (blocks : List ℕ) → k ≢ b → overlay disk start (k ∷ blocks) b ≡ overlay disk (start + 1) blocks b
overlay-other disk start b k blocks ne =
    let shift : (i : ℕ) → get_or (k ∷ blocks) (suc i) 0 ≡ get_or blocks i 0 = (λ i. refl) in
    ap (block_at disk) (⊎_elim
    (λ (f : (i : ℕ) × IsFirstCopy blocks b i).
    let before : (j : ℕ) → j < suc f.0 → get_or (k ∷ blocks) j 0 ≢ b = first_before k b blocks f.0 ne f.1.before in
    let place : start + 1 + suc f.0 ≡ start + 1 + 1 + f.0 = omega arith in
    let within : f.0 < length blocks = f.1.within in
    place_of-first start (k ∷ blocks) b (suc f.0) (omega arith) f.1.is before ∙ place ∙ sym (place_of-first (start + 1) blocks b f.0 f.1.within f.1.is f.1.before))
    (λ (n : (j : ℕ) → j < length blocks → get_or blocks j 0 ≢ b).
    place_of-none start (k ∷ blocks) b (first_before k b blocks (length blocks) ne n) ∙ sym (place_of-none (start + 1) blocks b n))
    (first_copy blocks b))

-- ---- what a disk's recovered blocks depend on

pub sizes_of-same : (old new : List (List ℕ)) → block_at new 1 ≡ block_at old 1 → sizes_of new ≡ sizes_of old
unfolding sizes_of
sizes_of-same old new e = ap super_fields e

pub logged-same : (old new : List (List ℕ)) → log_head_at new ≡ log_head_at old → logged new ≡ logged old
unfolding logged
logged-same old new e = ap head_numbers e

-- a disk's superblock and head stay if neither is written
pub sizes_of-set : (disk : List (List ℕ)) (c : ℕ) (bytes : List ℕ) → c ≢ 1 → sizes_of (set disk c bytes) ≡ sizes_of disk
sizes_of-set disk c bytes h = sizes_of-same disk (set disk c bytes) (block_at-set_other disk c 1 bytes (λ e. h (sym e)))

pub logged-set : (disk : List (List ℕ)) (c : ℕ) (bytes : List ℕ) → c ≢ 1 → c ≢ (sizes_of disk).logstart → logged (set disk c bytes) ≡ logged disk
logged-set disk c bytes h l =
    let sizes : sizes_of (set disk c bytes) ≡ sizes_of disk = sizes_of-set disk c bytes h in
    logged-same disk (set disk c bytes)
    (ap (λ (s : Super). block_at (set disk c bytes) s.logstart) sizes ∙ block_at-set_other disk c (sizes_of disk).logstart bytes (λ e. l (sym e)))

-- a write to a block other than the superblock, the head and the block's own place
pub recovered-set : (disk : List (List ℕ)) (c b : ℕ) (bytes : List ℕ)
    → c ≢ 1 → c ≢ (sizes_of disk).logstart → c ≢ place_of (sizes_of disk).logstart (logged disk) b
    → recovered (set disk c bytes) b ≡ recovered disk b
unfolding recovered
recovered-set disk c b bytes h l p =
    let sizes : sizes_of (set disk c bytes) ≡ sizes_of disk = sizes_of-set disk c bytes h in
    let named : logged (set disk c bytes) ≡ logged disk = logged-set disk c bytes h l in
    let place : ℕ = place_of (sizes_of disk).logstart (logged disk) b in
    ap (λ (s : Super). overlay (set disk c bytes) s.logstart (logged (set disk c bytes)) b) sizes
    ∙ ap (λ (xs : List ℕ). overlay (set disk c bytes) (sizes_of disk).logstart xs b) named
    ∙ block_at-set_other disk c place bytes (λ e. p (sym e))

-- ---- with nothing logged, and after a write of the head

pub length-logged : (disk : List (List ℕ)) → length (logged disk) ≡ log_count disk
unfolding logged
length-logged disk = length-u32s_at (log_count disk) (log_head_at disk) 4

pub logged-empty : (disk : List (List ℕ)) → log_count disk ≡ 0 → logged disk ≡ []
unfolding logged u32s_at
logged-empty disk e =
    ap (λ (n : ℕ). u32s_at n (log_head_at disk) 4) e

pub recovered-empty : (disk : List (List ℕ)) (b : ℕ) → logged disk ≡ [] → recovered disk b ≡ block_at disk b
unfolding recovered
recovered-empty disk b e = ap (λ (xs : List ℕ). overlay disk (sizes_of disk).logstart xs b) e

pub logged-written : (disk : List (List ℕ)) (blocks old : List ℕ) → log_head_at disk ≡ overwrite old 0 (spell_log_head blocks)
    → length blocks ≤ 255 → AllByRecursion (λ n. n < 2 ^ 32) blocks → logged disk ≡ blocks
unfolding logged
logged-written disk blocks old e l fits =
    ap head_numbers (e ∙ front-overwrite old (spell_log_head blocks)) ∙ head_numbers-spell blocks (drop (length (spell_log_head blocks)) old) (omega arith) fits

-- ---- block by block

pub recovered-copy : (disk : List (List ℕ)) (b i : ℕ) → IsFirstCopy (logged disk) b i → recovered disk b ≡ block_at disk ((sizes_of disk).logstart + 1 + i)
unfolding recovered
recovered-copy disk b i f = ap (block_at disk) (place_of-first (sizes_of disk).logstart (logged disk) b i f.within f.is f.before)

pub recovered-own : (disk : List (List ℕ)) (b : ℕ) → ((i : ℕ) → i < length (logged disk) → get_or (logged disk) i 0 ≢ b) → recovered disk b ≡ block_at disk b
unfolding recovered
recovered-own disk b n = ap (block_at disk) (place_of-none (sizes_of disk).logstart (logged disk) b n)

-- Lists of block numbers in which each occurs once, and 0 means none.
use Rattle.inodes_on_blocks.proofs.Vocabulary.{◌≡◌, ◌≢◌, ⊎_elim, ℕ, zero, suc, ◌+◌, ◌<◌, ◌≤◌, true, false, eqb, inl, inr, refl, sym, ◌∙◌, ap, subst, arith, List, [], ◌∷◌, length, filter, get_or, slice_index, nat_lt, if◌then◌else◌, All, Contains, cases_lt, nat_tests, get_or_past, IsOnce, times, is_block, block_number, once_nil, either, same_or, eq_self, one_yes, direct}
use Rattle.inodes_on_blocks.proofs.Lists.{times_cons, times_filtered, filter_keeps, filter_drops}
use Rattle.inodes_on_blocks.proofs.ImageBlocks.{place_times, once_times, block_true}
use Rattle.inodes_on_blocks.proofs.HeldTree.{pairs_cons}
use Rattle.inodes_on_blocks.proofs.HeldBlocks.{blocks_alone}

-- ---- a number that occurs once

two_times : (xs : List ℕ) (p q d : ℕ) → p < q → q < length xs → get_or xs p d ≡ get_or xs q d → 2 ≤ times (get_or xs p d) xs
two_times [] p q d l m e = absurd (omega arith)
two_times (x ∷ xs) zero zero d l m e = absurd (omega arith)
two_times (x ∷ xs) zero (suc q) d l m e =
    let later : 1 ≤ times x xs = subst (λ (z : ℕ). 1 ≤ times z xs) (sym e) (place_times xs q d (omega arith)) in
    omega (arith, times_cons x x xs, one_yes (eqb x x) (eq_self x), later)
two_times (x ∷ xs) (suc p) zero d l m e = absurd (omega arith)
two_times (x ∷ xs) (suc p) (suc q) d l m e = omega (arith, times_cons (get_or xs p d) x xs, two_times xs p q d (omega arith) (omega arith) e)

pub within : (ns : List ℕ) (p : ℕ) → slice_index ns p ≢ 0 → p < length ns
within ns p ne = ⊎_elim (λ (l : p < length ns). l) (λ (m : length ns ≤ p). absurd (ne (get_or_past ns p 0 m))) (cases_lt p (length ns))

-- a block's number has one place
pub one_place : (ns : List ℕ) (p q : ℕ) → IsOnce (filter is_block ns) → slice_index ns p ≢ 0 → slice_index ns p ≡ slice_index ns q → p ≡ q
one_place ns p q once ne e =
    let b : ℕ = slice_index ns p in
    let few : times b ns ≤ 1 = omega (arith, once_times b (filter is_block ns) once, times_filtered is_block b ns (block_true b ne)) in
    let other : slice_index ns q ≢ 0 = (λ z. ne (e ∙ z)) in
    elim (same_or p q) [
      | inl is ↦ is
      | inr apart ↦
          ⊎_elim
          (λ (l : p < q). absurd (omega (arith, few, two_times ns p q 0 l (within ns q other) e)))
          (λ (l : q ≤ p).
          let two : 2 ≤ times (slice_index ns q) ns = two_times ns q p 0 (omega (arith, l, apart)) (within ns p ne) (sym e) in
          let more : 2 ≤ times b ns = subst (λ (z : ℕ). 2 ≤ times z ns) (sym e) two in
          absurd (omega (arith, few, more)))
          (cases_lt p q)
    ]

-- ---- places and elements

-- within the list any default will do
pub any_default : (xs : List ℕ) (k d : ℕ) → k < length xs → get_or xs k d ≡ slice_index xs k
any_default [] k d l = absurd (omega arith)
any_default (x ∷ xs) zero d l = refl
any_default (x ∷ xs) (suc k) d l = any_default xs k d (omega arith)

pub contains_at : (xs : List ℕ) (k b : ℕ) → b ≢ 0 → slice_index xs k ≡ b → Contains xs b
contains_at xs k b ne is = let l : k < length xs = within xs k (λ z. ne (sym is ∙ z)) in (k, l, any_default xs k b l ∙ is)

pub contains_place : (xs : List ℕ) (b : ℕ) → Contains xs b → (k : ℕ) × (k < length xs) × (slice_index xs k ≡ b)
contains_place xs b has = (has.0, has.1, sym (any_default xs has.0 b has.1) ∙ has.2)

-- what holds of each number at its place holds of all
pub all_by_places : (P : ℕ → Type 0) (xs : List ℕ) → ((k : ℕ) → slice_index xs k ≢ 0 → P (slice_index xs k)) → All (λ b. b ≢ 0 → P b) xs
all_by_places P xs h = λ k d l ne. let same = any_default xs k d l in subst P (sym same) (h k (λ z. ne (same ∙ z)))

pub at_place : (P : ℕ → Type 0) (xs : List ℕ) (k : ℕ) → All P xs → slice_index xs k ≢ 0 → P (slice_index xs k)
at_place P xs k all ne = all k 0 (within xs k ne)

-- ---- once

-- each block's number has one place
abbrev pub HasPlaces : List ℕ → Type 0
HasPlaces ns = (p q : ℕ) → slice_index ns p ≢ 0 → slice_index ns p ≡ slice_index ns q → p ≡ q

suc_same : (p q : ℕ) → suc p ≡ suc q → p ≡ q
suc_same p q e = omega (arith, e)

pub once_by_places : (ns : List ℕ) → HasPlaces ns → IsOnce (filter is_block ns)
once_by_places [] h = once_nil
once_by_places (x ∷ ns) h =
    let rest : IsOnce (filter is_block ns) = once_by_places ns (λ p q ne e. suc_same p q (h (suc p) (suc q) ne e)) in
    elim (either (is_block x)) [
      | inr y ↦ subst IsOnce (sym (filter_drops is_block x ns y)) rest
      | inl y ↦
          let some : x ≢ 0 = (λ e. absurd (let none : is_block x ≡ false = ap is_block e in cc (none, y))) in
          let apart = blocks_alone (λ c. x ≢ c) ns (λ k d l ne e.
          let same : get_or ns k d ≡ slice_index ns k = any_default ns k d l in
          absurd (let z : 0 ≡ suc k = h 0 (suc k) some (e ∙ same) in omega (arith, z))) in
          subst IsOnce (sym (filter_keeps is_block x ns y)) (record { apart = pairs_cons (λ a c. a ≢ c) x (filter is_block ns) apart rest.apart })
    ]

-- ---- the place of block k's number

unfoldable pub place : ℕ → ℕ
place k = if nat_lt k direct then k else k + 1

pub number_place : (ns : List ℕ) (k : ℕ) → block_number ns k ≡ slice_index ns (place k)
unfolding place
number_place ns k = refl

pub place_low : (k : ℕ) → k < direct → place k ≡ k
unfolding place
place_low k l = let is : nat_lt k direct ≡ true = grind (arith, nat_tests) in rw is refl

pub place_high : (k : ℕ) → direct ≤ k → place k ≡ k + 1
unfolding place
place_high k l = let is : nat_lt k direct ≡ false = grind (arith, nat_tests) in rw is refl

pub place_apart : (k : ℕ) → place k ≢ direct
place_apart k e =
    ⊎_elim
    (λ (l : k < direct). absurd (omega (arith, e, l, place_low k l)))
    (λ (l : direct ≤ k). absurd (omega (arith, e, l, place_high k l)))
    (cases_lt k direct)

pub place_same : (k l : ℕ) → place k ≡ place l → k ≡ l
place_same k l e =
    ⊎_elim
    (λ (a : k < direct). ⊎_elim (λ (b : l < direct). omega (arith, e, place_low k a, place_low l b)) (λ (b : direct ≤ l). omega (arith, e, place_low k a, place_high l b, a, b)) (cases_lt l direct))
    (λ (a : direct ≤ k). ⊎_elim (λ (b : l < direct). omega (arith, e, place_high k a, place_low l b, a, b)) (λ (b : direct ≤ l). omega (arith, e, place_high k a, place_high l b)) (cases_lt l direct))
    (cases_lt k direct)

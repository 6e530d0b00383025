-- Numbers that rise one by one, and zeros after them.
use Rattle.mkfs.proofs.Vocabulary.{◌≡◌, ◌≢◌, ℕ, zero, suc, ◌+◌, ◌<◌, ◌≤◌, Bool, cond, not, List, [], ◌∷◌, ◌++◌, length, replicate, get_or, filter, ap, ◌∙◌, sym, refl, subst, arith, All, range_with_len, ne_eqb, append-nil, get_or_append_left, All-append, All-replicate, filter-append, length-range_with_len, get_or-range_with_len, is_block, IsOnce}
use Rattle.mkfs.proofs.ShownTrees.{IsRange}

-- one range after another
pub range-append : (a m n : ℕ) → range_with_len a m ++ range_with_len (a + m) n ≡ range_with_len a (m + n)
range-append a zero n =
    let start : a + 0 ≡ a = omega arith in
    let count : n ≡ 0 + n = omega arith in
    ap (λ (k : ℕ). range_with_len k n) start ∙ ap (range_with_len a) count
range-append a (suc m) n =
    let start : a + suc m ≡ a + 1 + m = omega arith in
    let count : suc (m + n) ≡ suc m + n = omega arith in
    ap (λ (k : ℕ). a ∷ (range_with_len (a + 1) m ++ range_with_len k n)) start
    ∙ ap (λ (xs : List ℕ). a ∷ xs) (range-append (a + 1) m n)
    ∙ ap (range_with_len a) count

pub range-once : (a n : ℕ) → IsOnce (range_with_len a n)
range-once a n = record {
  apart = λ i j d less within same.
      let long : j < n = omega (arith, length-range_with_len a n) in
      let sooner : i < n = omega arith in
      let places : a + i ≡ a + j = sym (get_or-range_with_len a n i d sooner) ∙ same ∙ get_or-range_with_len a n j d long in
      absurd (omega arith);
}

-- ---- which of them are blocks

range-blocks : (a n : ℕ) → 0 < a → filter is_block (range_with_len a n) ≡ range_with_len a n
range-blocks a zero h = refl
range-blocks a (suc n) h =
    let some : a ≢ 0 = λ e. absurd (omega arith) in
    ap (λ (b : Bool). cond (not b) (a ∷ filter is_block (range_with_len (a + 1) n)) (filter is_block (range_with_len (a + 1) n))) (ne_eqb a 0 some)
    ∙ ap (λ (xs : List ℕ). a ∷ xs) (range-blocks (a + 1) n (omega arith))

zeros-no_blocks : (n : ℕ) → filter is_block (replicate n 0) ≡ []
zeros-no_blocks zero = refl
zeros-no_blocks (suc n) = zeros-no_blocks n

pub blocks-of-range : (numbers : List ℕ) (first count : ℕ) → 0 < first → IsRange numbers first count → filter is_block numbers ≡ range_with_len first count
blocks-of-range numbers first count h r =
    ap (filter is_block) r.is
    ∙ filter-append is_block (range_with_len first count) (replicate r.zeros 0)
    ∙ ap (λ (xs : List ℕ). filter is_block (range_with_len first count) ++ xs) (zeros-no_blocks r.zeros)
    ∙ append-nil (filter is_block (range_with_len first count))
    ∙ range-blocks first count h

-- what holds of each number of the range holds of each that isn't 0
pub All-range : (Q : ℕ → Type 0) (numbers : List ℕ) (first count : ℕ) → IsRange numbers first count
    → ((b : ℕ) → first ≤ b → b < first + count → Q b) → All (λ b. b ≢ 0 → Q b) numbers
All-range Q numbers first count r h =
    let P : ℕ → Type 0 = λ b. b ≢ 0 → Q b in
    let front : All P (range_with_len first count) =
    (λ k d l.
    let within : k < count = omega (arith, length-range_with_len first count) in
    subst P (sym (get_or-range_with_len first count k d within)) (λ n. h (first + k) (omega arith) (omega arith))) in
    let behind : All P (replicate r.zeros 0) = All-replicate P r.zeros 0 (λ n. absurd (n refl)) in
    subst (All P) (sym r.is) (All-append P (range_with_len first count) (replicate r.zeros 0) front behind)

-- a number within the range
pub in-range : (numbers : List ℕ) (first count k : ℕ) → IsRange numbers first count → k < count → get_or numbers k 0 ≡ first + k
in-range numbers first count k r h =
    let long : k < length (range_with_len first count) = omega (arith, length-range_with_len first count) in
    ap (λ (xs : List ℕ). get_or xs k 0) r.is
    ∙ get_or_append_left (range_with_len first count) (replicate r.zeros 0) 0 k long
    ∙ get_or-range_with_len first count k 0 h

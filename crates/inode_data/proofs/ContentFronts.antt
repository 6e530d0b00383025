-- The blocks of a content one after the other, and what is between two offsets of them.
use Rattle.inode_data.proofs.Vocabulary.{◌≡◌, ⊎_elim, ℕ, zero, suc, ◌+◌, ◌-◌, ◌*◌, ◌/◌, ◌%◌, ◌<◌, ◌≤◌, List, [], ◌∷◌, ◌++◌, length, take, drop, refl, sym, ap, ◌∙◌, arith, length-append, cases_eq, drop-append-le, take-append-le, drop_at, take_all, drop-drop, length-drop, next_block, part_of, block_len}

-- ---- lists

take_nil : (j : ℕ) → take j (let e : List ℕ = [] in e) ≡ []
take_nil zero = refl
take_nil (suc j) = refl

-- two parts side by side
pub side_by_side : (a b : ℕ) (xs : List ℕ) → take a (take b xs) ++ take (a - b) (drop b xs) ≡ take a xs
side_by_side zero b xs = let none : 0 - b ≡ 0 = omega arith in rw none refl
side_by_side (suc a) zero xs = let same : suc a - 0 ≡ suc a = omega arith in rw same refl
side_by_side (suc a) (suc b) [] = take_nil (suc a - suc b)
side_by_side (suc a) (suc b) (x ∷ xs) = let less : suc a - suc b ≡ a - b = omega arith in rw less (ap (λ (ys : List ℕ). x ∷ ys) (side_by_side a b xs))

-- the rest of a beginning, after its first n elements
pub drop_of_take : (n m : ℕ) (xs : List ℕ) → drop n (take m xs) ≡ take (m - n) (drop n xs)
drop_of_take zero m xs = let same : m - 0 ≡ m = omega arith in rw same refl
drop_of_take (suc n) zero xs = let none : 0 - suc n ≡ 0 = omega arith in rw none refl
drop_of_take (suc n) (suc m) [] = sym (take_nil (suc m - suc n))
drop_of_take (suc n) (suc m) (x ∷ xs) = let less : suc m - suc n ≡ m - n = omega arith in rw less (drop_of_take n m xs)

-- ---- blocks

-- the first k blocks, one after the other
unfoldable pub front : (ℕ → List ℕ) → ℕ → List ℕ
front content zero = []
front content (suc k) = front content k ++ content k

module _ (content : ℕ → List ℕ) (k : ℕ) (whole : (q : ℕ) → q < k → length (content q) ≡ block_len) where
  pub length-front : (n : ℕ) → n ≤ k → length (front content n) ≡ block_len * n
  unfolding front
  length-front zero le = refl
  length-front (suc n) le = omega (arith, length-append (front content n) (content n), length-front n (omega (arith, le)), whole n (omega (arith, le)))

  pub block_there : (n q : ℕ) → n ≤ k → q < n → take block_len (drop (block_len * q) (front content n)) ≡ content q
  unfolding front
  block_there zero q le lt = absurd (omega (arith, lt))
  block_there (suc n) q le lt =
      ⊎_elim
      (λ (e : q ≡ n). rw e (ap (take block_len) (drop_at (front content n) (content n) (block_len * n) (length-front n (omega (arith, le)))) ∙ take_all block_len (content n) (omega (arith, whole n (omega (arith, le))))))
      (λ (ne : q ≡ n → ⊥).
      let below : q < n = omega (arith, ne, lt) in
      let len = length-front n (omega (arith, le)) in
      ap (take block_len) (drop-append-le (block_len * q) (front content n) (content n) (omega (arith, len, below)))
      ∙ (take-append-le block_len (drop (block_len * q) (front content n)) (content n) (omega (arith, len, below, length-drop (block_len * q) (front content n)))
      ∙ block_there n q (omega (arith, le)) below))
      (cases_eq q n)

  -- the bytes between two offsets are those of the first offset's block, and those that come after that block
  pub part_then : (from upto : ℕ) → from / block_len < k → part_of from upto (content (from / block_len)) ++ drop (next_block from) (take upto (front content k)) ≡ drop from (take upto (front content k))
  part_then from upto lt =
      let q : ℕ = from / block_len in
      let r : ℕ = from % block_len in
      let all : List ℕ = front content k in
      let sum : block_len * q + r ≡ from = omega arith in
      let rest : from + (block_len - r) ≡ next_block from = omega arith in
      let less : upto - next_block from ≡ (upto - from) - (block_len - r) = omega (arith, rest) in
      let here : drop r (content q) ≡ take (block_len - r) (drop from all) =
      ap (drop r) (sym (block_there k q (omega arith) lt)) ∙ (drop_of_take r block_len (drop (block_len * q) all) ∙ (ap (take (block_len - r)) (drop-drop r (block_len * q) all) ∙ ap (λ (n : ℕ). take (block_len - r) (drop n all)) sum)) in
      let there : drop (next_block from) (take upto all) ≡ take ((upto - from) - (block_len - r)) (drop (block_len - r) (drop from all)) =
      drop_of_take (next_block from) upto all ∙ (ap (λ (n : ℕ). take n (drop (next_block from) all)) less
      ∙ ap (take ((upto - from) - (block_len - r))) (sym (drop-drop (block_len - r) from all ∙ ap (λ (n : ℕ). drop n all) rest))) in
      ap (λ (xs : List ℕ). take (upto - from) xs ++ drop (next_block from) (take upto all)) here
      ∙ (ap (λ (xs : List ℕ). take (upto - from) (take (block_len - r) (drop from all)) ++ xs) there
      ∙ (side_by_side (upto - from) (block_len - r) (drop from all) ∙ sym (drop_of_take from upto all)))

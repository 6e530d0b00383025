-- The checks of block numbers and of bits pass.
use Rattle.inodes_on_blocks.proofs.Vocabulary.{◌≡◌, ◌≢◌, ⊎_elim, ℕ, zero, suc, ◌+◌, ◌-◌, ◌<◌, ◌≤◌, false, inl, inr, refl, sym, ◌∙◌, ap, subst, arith, List, [], ◌∷◌, ◌++◌, length, length-append, filter, get_or, All, cases_lt, get_or_append_left, get_or-append_right, All-cons, All-head, All-tail, All-nil, IsOnce, gathered, is_block, numbers_by, named_by, last, HasGoodNumbers, NamesOnce, HasMarks, once_nil, either, MarksBlocks}
use Rattle.inodes_on_blocks.proofs.HeldParts.{OwnBlocks}
use Rattle.inodes_on_blocks.proofs.Lists.{filter_keeps, filter_drops}

-- ---- lists

pub blocks_alone : (P : ℕ → Type 0) (xs : List ℕ) → All (λ b. b ≢ 0 → P b) xs → All P (filter is_block xs)
blocks_alone P [] all = All-nil P
blocks_alone P (x ∷ xs) all =
    let Q : ℕ → Type 0 = λ b. b ≢ 0 → P b in
    let rest = blocks_alone P xs (All-tail Q x xs all) in
    elim (either (is_block x)) [
      | inl y ↦
          subst (All P) (sym (filter_keeps is_block x xs y))
          (All-cons P x (filter is_block xs) (All-head Q x xs all (λ e. absurd (let none : is_block x ≡ false = ap is_block e in cc (none, y)))) rest)
      | inr y ↦ subst (All P) (sym (filter_drops is_block x xs y)) rest
    ]

all_append : (P : ℕ → Type 0) (xs ys : List ℕ) → All P xs → All P ys → All P (xs ++ ys)
all_append P [] ys h all = all
all_append P (x ∷ xs) ys h all = All-cons P x (xs ++ ys) (All-head P x xs h) (all_append P xs ys (All-tail P x xs h) all)

all_weaker : (P Q : ℕ → Type 0) (xs : List ℕ) → ((b : ℕ) → P b → Q b) → All P xs → All Q xs
all_weaker P Q xs h all = λ k d l. h (get_or xs k d) (all k d l)

-- lists whose elements differ by their owner
once_append : (owner : ℕ → ℕ) (n : ℕ) (xs ys : List ℕ) → IsOnce xs → IsOnce ys → All (λ b. owner b ≤ n) xs → All (λ b. owner b ≡ suc n) ys → IsOnce (xs ++ ys)
once_append owner n xs ys one other low high = record {
  apart = λ i j d l m e.
      let long : length (xs ++ ys) ≡ length xs + length ys = length-append xs ys in
      ⊎_elim
      (λ (p : j < length xs).
      one.apart i j d l p (sym (get_or_append_left xs ys d i (omega arith)) ∙ e ∙ get_or_append_left xs ys d j p))
      (λ (p : length xs ≤ j).
      let right : get_or (xs ++ ys) j d ≡ get_or ys (j - length xs) d = get_or-append_right xs ys (length xs) j d refl p in
      ⊎_elim
      (λ (q : i < length xs).
      let left : get_or (xs ++ ys) i d ≡ get_or xs i d = get_or_append_left xs ys d i q in
      let same : owner (get_or xs i d) ≡ owner (get_or ys (j - length xs) d) = ap owner (sym left ∙ e ∙ right) in
      let a : owner (get_or xs i d) ≤ n = low i d q in
      let b : owner (get_or ys (j - length xs) d) ≡ suc n = high (j - length xs) d (omega (arith, long, m, p)) in
      omega (arith, same, a, b))
      (λ (q : length xs ≤ i).
      other.apart (i - length xs) (j - length xs) d (omega arith) (omega (arith, long, m, p))
      (sym (get_or-append_right xs ys (length xs) i d refl q) ∙ e ∙ right))
      (cases_lt i (length xs)))
      (cases_lt j (length xs));
}

module _ (owner : ℕ → ℕ) (f : ℕ → List ℕ) where
  owned_below : (n : ℕ) → ((i : ℕ) → 1 ≤ i → i ≤ n → All (λ b. owner b ≡ i) (f i)) → All (λ b. owner b ≤ n) (gathered f n)
  unfolding gathered
  owned_below zero all = All-nil (λ b. owner b ≤ 0)
  owned_below (suc n) all =
      let Q : ℕ → Type 0 = λ b. owner b ≤ suc n in
      all_append Q (gathered f n) (f (suc n))
      (all_weaker (λ b. owner b ≤ n) Q (gathered f n) (λ b l. omega arith) (owned_below n (λ i low high. all i low (omega arith))))
      (all_weaker (λ b. owner b ≡ suc n) Q (f (suc n)) (λ b e. omega (arith, e)) (all (suc n) (omega arith) (omega arith)))

  gathered_once : (n : ℕ) → ((i : ℕ) → 1 ≤ i → i ≤ n → IsOnce (f i)) → ((i : ℕ) → 1 ≤ i → i ≤ n → All (λ b. owner b ≡ i) (f i)) → IsOnce (gathered f n)
  unfolding gathered
  gathered_once zero once all = once_nil
  gathered_once (suc n) once all =
      once_append owner n (gathered f n) (f (suc n))
      (gathered_once n (λ i low high. once i low (omega arith)) (λ i low high. all i low (omega arith)))
      (once (suc n) (omega arith) (omega arith))
      (owned_below n (λ i low high. all i low (omega arith)))
      (all (suc n) (omega arith) (omega arith))

-- ---- the disk

module _ (disk : List (List ℕ)) (owner : ℕ → ℕ) (blocks : OwnBlocks disk owner) where
  pub good_numbers : HasGoodNumbers disk
  good_numbers i low bound = λ k d l ne. (blocks.owned i low bound k d l ne).block

  pub names_once : NamesOnce disk
  names_once =
      gathered_once owner (named_by disk) (last disk)
      (λ i low high. blocks.once i low (omega arith))
      (λ i low high.
      blocks_alone (λ b. owner b ≡ i) (numbers_by disk i) (λ k d l ne. (blocks.owned i low (omega arith) k d l ne).owner_is))

  pub has_marks : MarksBlocks disk owner → HasMarks disk
  has_marks bits = record {
    front = bits.front;
    named = λ i low bound k d l ne.
        let own = blocks.owned i low bound k d l ne in
        bits.owned (get_or (numbers_by disk i) k d) own.block (λ z. let is = own.owner_is in absurd (omega (arith, z, is, low)));
  }

-- Whose the blocks of a well-formed image are.
use Rattle.inodes_on_blocks.proofs.Vocabulary.{◌≡◌, ◌≢◌, ℕ, zero, suc, ◌+◌, ◌-◌, ◌<◌, ◌≤◌, Bool, true, false, eqb, inl, inr, refl, sym, ◌∙◌, ap, subst, arith, List, [], ◌∷◌, ◌++◌, length, length-append, filter, get_or, nat_lt, All, Contains, nat_tests, get_or-append_right, sizes_of, IsOnce, gathered, times, is_block, numbers_by, named_by, last, HasGoodNumbers, NamesOnce, HasMarks, is_marked, front_once, one_if, either, eq_self, eq_not, same_or, one_yes, OwnsBlocks, MarksBlocks, owner_upto, owner_in}
use Rattle.inodes_on_blocks.proofs.Lists.{times_nil, times_cons, times_more, no_hit, times_filtered, filter_keeps, filter_drops}

-- ---- lists

rest_once : (x : ℕ) (xs : List ℕ) → IsOnce (x ∷ xs) → IsOnce xs
rest_once x xs once = record { apart = λ i j d p q. once.apart (suc i) (suc j) d (omega arith) (omega arith) }

other_times : (x : ℕ) (xs : List ℕ) → All (λ y. x ≢ y) xs → times x xs ≡ 0
other_times x [] all = times_nil x
other_times x (y ∷ xs) all =
    let here : y ≢ x = (λ e. all 0 0 (omega arith) (sym e)) in
    omega (arith, times_cons x y xs, no_hit y x here, other_times x xs (λ k d l. all (suc k) d (omega arith)))

one_at_most : (c : Bool) → one_if c ≤ 1
unfolding one_if
one_at_most true = omega arith
one_at_most false = omega arith

pub once_times : (b : ℕ) (xs : List ℕ) → IsOnce xs → times b xs ≤ 1
once_times b [] once = omega (arith, times_nil b)
once_times b (x ∷ xs) once = elim (same_or x b) [
  | inr ne ↦ omega (arith, times_cons b x xs, no_hit x b ne, once_times b xs (rest_once x xs once))
  | inl e ↦
      let none : times x xs ≡ 0 = other_times x xs (λ k d l. once.apart 0 (suc k) d (omega arith) (omega arith)) in
      let same : times b xs ≡ 0 = subst (λ (z : ℕ). times z xs ≡ 0) e none in
      omega (arith, times_cons b x xs, same, one_at_most (eqb x b))
]

-- the element at a place of a list occurs in it at least once
pub place_times : (xs : List ℕ) (k d : ℕ) → k < length xs → 1 ≤ times (get_or xs k d) xs
place_times [] k d l = absurd (omega arith)
place_times (x ∷ xs) zero d l = omega (arith, times_cons x x xs, one_yes (eqb x x) (eq_self x))
place_times (x ∷ xs) (suc k) d l = omega (arith, times_cons (get_or xs k d) x xs, place_times xs k d (omega arith))

times_place : (b : ℕ) (xs : List ℕ) → 1 ≤ times b xs → (k : ℕ) × (k < length xs) × (get_or xs k 0 ≡ b)
times_place b [] h = absurd (omega (arith, h, times_nil b))
times_place b (x ∷ xs) h = elim (same_or x b) [
  | inl e ↦ (0, omega arith, e)
  | inr ne ↦
      let ih = times_place b xs (omega (arith, h, times_cons b x xs, no_hit x b ne)) in
      (suc ih.0, (let l = ih.1 in omega (arith, l)), ih.2)
]

contains_there : (xs : List ℕ) (k b : ℕ) → k < length xs → get_or xs k 0 ≡ b → Contains xs b
contains_there xs k b l is = (k, l, same xs k l ∙ is)
  where
    same : (xs : List ℕ) (k : ℕ) → k < length xs → get_or xs k b ≡ get_or xs k 0
    same [] k l = absurd (omega arith)
    same (x ∷ xs) zero l = refl
    same (x ∷ xs) (suc k) l = same xs k (omega arith)

times_kept_le : (b : ℕ) (xs : List ℕ) → times b (filter is_block xs) ≤ times b xs
times_kept_le b [] = omega (arith, times_nil b)
times_kept_le b (x ∷ xs) =
    let ih = times_kept_le b xs in
    elim (either (is_block x)) [
      | inl y ↦ omega (arith, ih, ap (times b) (filter_keeps is_block x xs y), times_cons b x (filter is_block xs), times_cons b x xs)
      | inr y ↦ omega (arith, ih, ap (times b) (filter_drops is_block x xs y), times_cons b x xs)
    ]

back_once : (xs ys : List ℕ) → IsOnce (xs ++ ys) → IsOnce ys
back_once xs ys once = record {
  apart = λ i j d p q e.
      let long : length (xs ++ ys) ≡ length xs + length ys = length-append xs ys in
      let ni : length xs + i - length xs ≡ i = omega arith in
      let nj : length xs + j - length xs ≡ j = omega arith in
      let left : get_or (xs ++ ys) (length xs + i) d ≡ get_or ys i d = get_or-append_right xs ys (length xs) (length xs + i) d refl (omega arith) ∙ ap (λ (k : ℕ). get_or ys k d) ni in
      let right : get_or (xs ++ ys) (length xs + j) d ≡ get_or ys j d = get_or-append_right xs ys (length xs) (length xs + j) d refl (omega arith) ∙ ap (λ (k : ℕ). get_or ys k d) nj in
      once.apart (length xs + i) (length xs + j) d (omega arith) (omega (arith, long, q)) (left ∙ e ∙ sym right);
}

-- ---- owners

module _ (f : ℕ → List ℕ) where
  part_once : (n i : ℕ) → IsOnce (gathered f n) → 1 ≤ i → i ≤ n → IsOnce (f i)
  unfolding gathered
  part_once zero i once low high = absurd (omega arith)
  part_once (suc n) i once low high = elim (same_or i (suc n)) [
    | inl e ↦ subst (λ (k : ℕ). IsOnce (f k)) (sym e) (back_once (gathered f n) (f (suc n)) once)
    | inr ne ↦ part_once n i (front_once (gathered f n) (f (suc n)) once) low (omega arith)
  ]

  part_times : (n i b : ℕ) → 1 ≤ i → i ≤ n → times b (f i) ≤ times b (gathered f n)
  part_times zero i b low high = absurd (omega arith)
  part_times (suc n) i b low high = elim (same_or i (suc n)) [
    | inl e ↦ omega (arith, times_more b f n, ap (λ (k : ℕ). times b (f k)) e)
    | inr ne ↦ omega (arith, times_more b f n, part_times n i b low (omega arith))
  ]

  owner_here : (n b : ℕ) → 1 ≤ times b (f (suc n)) → owner_upto f (suc n) b ≡ suc n
  unfolding owner_upto
  owner_here n b some = let is : nat_lt 0 (times b (f (suc n))) ≡ true = grind (arith, nat_tests) in rw is refl

  owner_before : (n b : ℕ) → times b (f (suc n)) ≡ 0 → owner_upto f (suc n) b ≡ owner_upto f n b
  unfolding owner_upto
  owner_before n b none = let is : nat_lt 0 (times b (f (suc n))) ≡ false = grind (arith, nat_tests) in rw is refl

  owner_start : (b : ℕ) → owner_upto f 0 b ≡ 0
  unfolding owner_upto
  owner_start b = refl

  owner_is : (n i b : ℕ) → times b (gathered f n) ≤ 1 → 1 ≤ i → i ≤ n → 1 ≤ times b (f i) → owner_upto f n b ≡ i
  owner_is zero i b few low high some = absurd (omega arith)
  owner_is (suc n) i b few low high some = elim (same_or i (suc n)) [
    | inl e ↦ owner_here n b (subst (λ (k : ℕ). 1 ≤ times b (f k)) e some) ∙ sym e
    | inr ne ↦
        let before : 1 ≤ times b (gathered f n) = omega (arith, some, part_times n i b low (omega arith)) in
        owner_before n b (omega (arith, before, few, times_more b f n)) ∙ owner_is n i b (omega (arith, few, times_more b f n)) low (omega arith) some
  ]

  owner_names : (n b : ℕ) → owner_upto f n b ≢ 0 → (i : ℕ) × (1 ≤ i) × (i ≤ n) × (1 ≤ times b (f i)) × (owner_upto f n b ≡ i)
  owner_names zero b ne = absurd (ne (owner_start b))
  owner_names (suc n) b ne = elim (same_or (times b (f (suc n))) 0) [
    | inr some ↦ (suc n, omega arith, omega arith, omega (arith, some), owner_here n b (omega (arith, some)))
    | inl none ↦
        let ih = owner_names n b (λ e. ne (owner_before n b none ∙ e)) in
        (ih.0, ih.1, (let l = ih.2 in omega (arith, l)), ih.3, owner_before n b none ∙ ih.4)
  ]

-- ---- the image

pub block_true : (b : ℕ) → b ≢ 0 → is_block b ≡ true
block_true b ne = rw (eq_not b 0 ne) refl

module _ (disk : List (List ℕ)) (numbers : HasGoodNumbers disk) (once : NamesOnce disk) (marks : HasMarks disk) where
  pub owns_blocks : (i : ℕ) → 1 ≤ i → i < (sizes_of disk).ninodes → OwnsBlocks disk (owner_in disk) i
  owns_blocks i low bound = record {
    owned = λ k d l ne.
        let b : ℕ = get_or (numbers_by disk i) k d in
        let there : 1 ≤ times b (named_by disk i) = omega (arith, place_times (numbers_by disk i) k d l, times_filtered is_block b (numbers_by disk i) (block_true b ne)) in
        record {
          block = numbers i low bound k d l ne;
          owner_is = owner_is (named_by disk) (last disk) i b (once_times b (gathered (named_by disk) (last disk)) once) low (omega arith) there;
        };
    once = part_once (named_by disk) (last disk) i once low (omega arith);
    named = λ b block own.
        let who = owner_names (named_by disk) (last disk) b (λ z. absurd (omega (arith, z, own, low))) in
        let named = who.3 in
        let is : who.0 ≡ i = sym who.4 ∙ own in
        let place = times_place b (numbers_by disk who.0) (omega (arith, named, times_kept_le b (numbers_by disk who.0))) in
        let past = block.0 in
        subst (λ (k : ℕ). Contains (numbers_by disk k) b) is (contains_there (numbers_by disk who.0) place.0 b place.1 place.2);
  }

  pub marks_blocks : 1 ≤ (sizes_of disk).ninodes → MarksBlocks disk (owner_in disk)
  marks_blocks some = record {
    front = marks.front;
    owned = λ b block ne.
        let who = owner_names (named_by disk) (last disk) b ne in
        let low = block.0 in
        let named = who.3 in
        let place = times_place b (numbers_by disk who.0) (omega (arith, named, times_kept_le b (numbers_by disk who.0))) in
        let high = who.2 in
        let is = place.2 in
        subst (λ (z : ℕ). is_marked disk z ≡ true) is
        (marks.named who.0 who.1 (omega (arith, high, some)) place.0 0 place.1 (λ z. absurd (omega (arith, z, is, low))));
  }

-- Lists that are gathered from inodes, of which no number is named twice.
use Rattle.image_tree.proofs.Vocabulary.{◌≡◌, ◌≢◌, inl, inr, ℕ, zero, suc, ◌+◌, ◌<◌, ◌≤◌, List, [], ◌∷◌, ◌++◌, length, length-append, append_assoc, sym, ◌∙◌, ap, subst, arith, Contains, All, cases_eq, append-nil, get_or_append_left, get_or-append-add, Contains-append_left, Contains-append_right, All-append, AllPairs-cons, IsOnce, gathered}
use Rattle.image_tree.proofs.MarkLemmas.{front_once}
use Rattle.image_tree.proofs.NumberLists.{All-front}
use Rattle.image_tree.proofs.SlotNumbers.{All-last}

-- what one of them gives is gathered
pub gathered_has : (f : ℕ → List ℕ) (n i b : ℕ) → 1 ≤ i → i ≤ n → Contains (f i) b → Contains (gathered f n) b
unfolding gathered
gathered_has f zero i b low high has = absurd (omega (arith, low, high))
gathered_has f (suc n) i b low high has = elim (cases_eq i (suc n)) [
  | inl e ↦ Contains-append_right (gathered f n) (f (suc n)) b (subst (λ (k : ℕ). Contains (f k) b) e has)
  | inr ne ↦ Contains-append_left (gathered f n) (f (suc n)) b (gathered_has f n i b low (omega (arith, high, ne)) has)
]

-- no number is on both sides
clash : (xs ys : List ℕ) (b : ℕ) → IsOnce (xs ++ ys) → Contains xs b → Contains ys b → ⊥
clash xs ys b once (p, l, is) (q, m, there) =
    once.apart p (length xs + q) b (omega (arith, l)) (omega (arith, m, length-append xs ys))
    (get_or_append_left xs ys b p l ∙ is ∙ sym there ∙ sym (get_or-append-add xs ys q b))

-- no two inodes name one number
pub apart : (f : ℕ → List ℕ) (n i j b : ℕ) → IsOnce (gathered f n) → 1 ≤ i → i < j → j ≤ n → Contains (f i) b → Contains (f j) b → ⊥
unfolding gathered
apart f zero i j b once low lt high here there = omega (arith, low, lt, high)
apart f (suc n) i j b once low lt high here there = elim (cases_eq j (suc n)) [
  | inl e ↦ clash (gathered f n) (f (suc n)) b once (gathered_has f n i b low (omega (arith, lt, e)) here) (subst (λ (k : ℕ). Contains (f k) b) e there)
  | inr ne ↦ apart f n i j b (front_once (gathered f n) (f (suc n)) once) low lt (omega (arith, high, ne)) here there
]

-- ---- without what one inode names

back_once : (xs ys : List ℕ) → IsOnce (xs ++ ys) → IsOnce ys
back_once [] ys once = once
back_once (x ∷ xs) ys once = back_once xs ys (record { apart = λ i j d p q. once.apart (suc i) (suc j) d (omega (arith, p)) (omega (arith, q)) })

skip_once : (xs ys zs : List ℕ) → IsOnce (xs ++ (ys ++ zs)) → IsOnce (xs ++ zs)
skip_once [] ys zs once = back_once ys zs once
skip_once (x ∷ xs) ys zs once =
    let tail : IsOnce (xs ++ (ys ++ zs)) = record { apart = λ i j d p q. once.apart (suc i) (suc j) d (omega (arith, p)) (omega (arith, q)) } in
    let head : All (λ y. x ≢ y) (xs ++ (ys ++ zs)) = (λ k d l. once.apart 0 (suc k) d (omega arith) (omega (arith, l))) in
    let rest : All (λ y. x ≢ y) (ys ++ zs) = All-last (λ y. x ≢ y) xs (ys ++ zs) head in
    let others : All (λ y. x ≢ y) (xs ++ zs) = All-append (λ y. x ≢ y) xs zs (All-front (λ y. x ≢ y) xs (ys ++ zs) head) (All-last (λ y. x ≢ y) ys zs rest) in
    record { apart = AllPairs-cons (λ y z. y ≢ z) x (xs ++ zs) others (skip_once xs ys zs tail).apart }

module _ (f g : ℕ → List ℕ) (i : ℕ) (none : g i ≡ []) (last : ℕ) (same : (k : ℕ) → 1 ≤ k → k ≤ last → k ≢ i → g k ≡ f k) where
  fewer_with : (n : ℕ) (rest : List ℕ) → n ≤ last → IsOnce (gathered f n ++ rest) → IsOnce (gathered g n ++ rest)
  unfolding gathered
  fewer_with zero rest le once = once
  fewer_with (suc n) rest le once =
      let joined : IsOnce (gathered f n ++ (f (suc n) ++ rest)) = subst IsOnce (append_assoc (gathered f n) (f (suc n)) rest) once in
      elim (cases_eq (suc n) i) [
        | inl e ↦
            let empty : g (suc n) ≡ [] = ap g e ∙ none in
            subst IsOnce (sym (ap (λ (xs : List ℕ). (gathered g n ++ xs) ++ rest) empty ∙ ap (λ (xs : List ℕ). xs ++ rest) (append-nil (gathered g n))))
            (fewer_with n rest (omega (arith, le)) (skip_once (gathered f n) (f (suc n)) rest joined))
        | inr ne ↦
            subst IsOnce (sym (ap (λ (xs : List ℕ). (gathered g n ++ xs) ++ rest) (same (suc n) (omega arith) le ne) ∙ append_assoc (gathered g n) (f (suc n)) rest))
            (fewer_with n (f (suc n) ++ rest) (omega (arith, le)) joined)
      ]

  pub fewer_once : IsOnce (gathered f last) → IsOnce (gathered g last)
  fewer_once once = subst IsOnce (append-nil (gathered g last)) (fewer_with last [] (omega arith) (subst IsOnce (sym (append-nil (gathered f last))) once))

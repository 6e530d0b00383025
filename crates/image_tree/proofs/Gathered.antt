-- What is gathered from the inodes, one after the other.
use Rattle.image_tree.proofs.Vocabulary.{◌≡◌, ℕ, zero, suc, ◌+◌, ◌-◌, ◌≤◌, List, [], ◌++◌, refl, sym, ap, ◌∙◌, subst, arith, append_assoc, filter, append-nil, IsOnce, gathered, named_by, numbers_by, is_block}
use Rattle.image_tree.proofs.MarkLemmas.{front_once}

-- what the first inodes give begins what more give
pub gathered-add : (f : ℕ → List ℕ) (n k : ℕ) → (rest : List ℕ) × (gathered f (n + k) ≡ gathered f n ++ rest)
unfolding gathered
gathered-add f n zero = let e : n + 0 ≡ n = omega arith in ([], ap (gathered f) e ∙ sym (append-nil (gathered f n)))
gathered-add f n (suc k) =
    let ih = gathered-add f n k in
    let e : n + suc k ≡ suc (n + k) = omega arith in (
      ih.0 ++ f (suc (n + k)),
      ap (gathered f) e ∙ ap (λ (xs : List ℕ). xs ++ f (suc (n + k))) ih.1 ∙ append_assoc (gathered f n) ih.0 (f (suc (n + k))),
    )

pub gathered-none : (f : ℕ → List ℕ) → gathered f 0 ≡ []
unfolding gathered
gathered-none f = refl

pub gathered-more : (f : ℕ → List ℕ) (i : ℕ) → 1 ≤ i → gathered f (i + 1 - 1) ≡ gathered f (i - 1) ++ f i
unfolding gathered
gathered-more f i h =
    let e : i + 1 - 1 ≡ suc (i - 1) = omega arith in
    let k : suc (i - 1) ≡ i = omega arith in
    ap (gathered f) e ∙ ap (λ (k : ℕ). gathered f (i - 1) ++ f k) k

-- a repeat among the first is one among all
pub twice_gathered : (f : ℕ → List ℕ) (n m : ℕ) → n ≤ m → (IsOnce (gathered f n) → ⊥) → IsOnce (gathered f m) → ⊥
twice_gathered f n m h bad once =
    let e : m ≡ n + (m - n) = omega arith in
    let more = gathered-add f n (m - n) in
    bad (front_once (gathered f n) more.0 (subst IsOnce (ap (gathered f) e ∙ more.1) once))

-- the numbers so far, and those of one more inode, as they were loaded
pub marked : (disk now : List (List ℕ)) (i : ℕ) (loaded numbers : List ℕ) → 1 ≤ i → loaded ≡ numbers → numbers ≡ numbers_by now i → now ≡ disk
    → gathered (named_by disk) (i - 1) ++ filter is_block loaded ≡ gathered (named_by disk) (i + 1 - 1)
marked disk now i loaded numbers low e f same =
    ap (λ (xs : List ℕ). gathered (named_by disk) (i - 1) ++ filter is_block xs) (e ∙ f ∙ ap (λ (d : List (List ℕ)). numbers_by d i) same)
    ∙ sym (gathered-more (named_by disk) i low)

-- Pieces of a list: a part of a part, and records of one length side by side.
use Rattle.mkfs.proofs.Vocabulary.{◌≡◌, ℕ, zero, suc, ◌+◌, ◌-◌, ◌*◌, ◌<◌, ◌≤◌, List, [], ◌∷◌, ◌++◌, length, take, drop, get_or, ap, ◌∙◌, sym, arith, append_assoc, length-append, All, flat_map, mul-suc, mul-zero, drop_at, drop-drop, drop-take, take_at, take-take, All-head, All-tail}

-- the n numbers from a place on, of the many from another place on
pub part-of-part : (xs : List ℕ) (n at many from place : ℕ) → at + n ≤ many → from + at ≡ place → take n (drop at (take many (drop from xs))) ≡ take n (drop place xs)
part-of-part xs n at many from place h e =
    let rest : ℕ = many - at in
    let split : many ≡ at + rest = omega arith in
    let few : n ≤ rest = omega arith in
    ap (λ (k : ℕ). take n (drop at (take k (drop from xs)))) split
    ∙ ap (take n) (drop-take at rest (drop from xs))
    ∙ take-take n rest (drop at (drop from xs)) few
    ∙ ap (take n) (drop-drop at from xs ∙ ap (λ (k : ℕ). drop k xs) e)

-- records that are spelled in n numbers each
module _ {X : Type 0} (spell : X → List ℕ) (n : ℕ) where
  abbrev pub AreLong : List X → Type 0
  AreLong xs = All (λ x. length (spell x) ≡ n) xs

  next-place : (j : ℕ) → n * suc j ≡ n + n * j
  next-place j = mul-suc n j ∙ (let swap : n * j + n ≡ n + n * j = omega arith in swap)

  pub length-records : (xs : List X) → AreLong xs → length (flat_map spell xs) ≡ n * length xs
  length-records [] h = sym (mul-zero n)
  length-records (x ∷ xs) h =
      let one = All-head (λ y. length (spell y) ≡ n) x xs h in
      let rest = length-records xs (All-tail (λ y. length (spell y) ≡ n) x xs h) in
      length-append (spell x) (flat_map spell xs) ∙ ap (λ (k : ℕ). k + length (flat_map spell xs)) one ∙ ap (λ (k : ℕ). n + k) rest ∙ sym (next-place (length xs))

  -- record j, among those that follow it
  pub record-there : (xs : List X) (j : ℕ) (d : X) (behind : List ℕ) → AreLong xs → j < length xs
      → take n (drop (n * j) (flat_map spell xs ++ behind)) ≡ spell (get_or xs j d)
  record-there [] j d behind h l = absurd (omega arith)
  record-there (x ∷ xs) zero d behind h l =
      let rest : List ℕ = flat_map spell xs in
      ap (λ (k : ℕ). take n (drop k ((spell x ++ rest) ++ behind))) (mul-zero n)
      ∙ ap (take n) (append_assoc (spell x) rest behind)
      ∙ take_at (spell x) (rest ++ behind) n (All-head (λ y. length (spell y) ≡ n) x xs h)
  record-there (x ∷ xs) (suc j) d behind h l =
      let a : List ℕ = spell x in
      let rest : List ℕ = flat_map spell xs in
      ap (λ (k : ℕ). take n (drop k ((a ++ rest) ++ behind))) (next-place j)
      ∙ ap (λ (ys : List ℕ). take n (drop (n + n * j) ys)) (append_assoc a rest behind)
      ∙ ap (take n) (sym (drop-drop (n * j) n (a ++ (rest ++ behind))) ∙ ap (drop (n * j)) (drop_at a (rest ++ behind) n (All-head (λ y. length (spell y) ≡ n) x xs h)))
      ∙ record-there xs j d behind (All-tail (λ y. length (spell y) ≡ n) x xs h) (omega arith)

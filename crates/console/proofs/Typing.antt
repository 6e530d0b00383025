-- The first of the lines that are typed is what is read up to a byte 10.
use Rattle.console.proofs.Vocabulary.{eqb-true, ◌≡◌, ℕ, Bool, true, false, eqb, eq-eqb, List, [], ◌∷◌, ◌++◌, cond, length, Option, Some, None, IfSome, refl, ap, sym, ◌∙◌, subst, arith, length-append, IsAtEnd, take_through, drop_through, DropsThrough, typed_lines, with_byte, IsFirst}

no_list : (body : List ℕ) {P : Type 0} → [] ≡ body ++ 10 ∷ [] → P
no_list body is = absurd (omega (arith, ap length is, length-append body (10 ∷ [])))

ended : (xs body : List ℕ) → take_through 10 xs ≡ body ++ 10 ∷ [] → typed_lines xs ≡ body ∷ typed_lines (drop_through 10 xs)
unfolding typed_lines
ended [] body is = no_list body is
ended (x ∷ xs) body is = by (λ ys e. ended xs ys e) (eqb x 10) refl body is
  where
    by : ((ys : List ℕ) → take_through 10 xs ≡ ys ++ 10 ∷ [] → typed_lines xs ≡ ys ∷ typed_lines (drop_through 10 xs)) → (b : Bool) → eqb x 10 ≡ b → (body : List ℕ) → cond b (x ∷ []) (x ∷ take_through 10 xs) ≡ body ++ 10 ∷ []
        → cond b ([] ∷ typed_lines xs) (with_byte x (typed_lines xs)) ≡ body ∷ typed_lines (cond b xs (drop_through 10 xs))
    by rest true e [] is = refl
    by rest true e (y ∷ ys) is = no_list ys (cc)
    by rest false e [] is = let ten : x ≡ 10 = cc in absurd (cc (eq-eqb x 10 ten))
    by rest false e (y ∷ ys) is =
        let same : x ≡ y = cc in
        let left : take_through 10 xs ≡ ys ++ 10 ∷ [] = cc in
        ap (with_byte x) (rest ys left) ∙ ap (λ z. (z ∷ ys) ∷ typed_lines (drop_through 10 xs)) same

endless : (xs : List ℕ) → (xs ≡ [] → ⊥) → ((front : List ℕ) → take_through 10 xs ≡ front ++ 10 ∷ [] → ⊥) → typed_lines xs ≡ take_through 10 xs ∷ typed_lines (drop_through 10 xs)
unfolding typed_lines
endless [] some none = absurd (some refl)
endless (x ∷ xs) some none = by (λ e n. endless xs e n) (eqb x 10) refl none
  where
    more : ((xs ≡ [] → ⊥) → ((front : List ℕ) → take_through 10 xs ≡ front ++ 10 ∷ [] → ⊥) → typed_lines xs ≡ take_through 10 xs ∷ typed_lines (drop_through 10 xs)) → (ys : List ℕ) → xs ≡ ys → ((front : List ℕ) → x ∷ take_through 10 xs ≡ front ++ 10 ∷ [] → ⊥) → with_byte x (typed_lines xs) ≡ (x ∷ take_through 10 xs) ∷ typed_lines (drop_through 10 xs)
    more rest [] is none = subst (λ l. with_byte x (typed_lines l) ≡ (x ∷ take_through 10 l) ∷ typed_lines (drop_through 10 l)) (sym is) refl
    more rest (y ∷ ys) is none = ap (with_byte x) (rest (λ e. cc) (λ front e. none (x ∷ front) (ap (λ l. x ∷ l) e)))

    by : ((xs ≡ [] → ⊥) → ((front : List ℕ) → take_through 10 xs ≡ front ++ 10 ∷ [] → ⊥) → typed_lines xs ≡ take_through 10 xs ∷ typed_lines (drop_through 10 xs)) → (b : Bool) → eqb x 10 ≡ b → ((front : List ℕ) → cond b (x ∷ []) (x ∷ take_through 10 xs) ≡ front ++ 10 ∷ [] → ⊥)
        → cond b ([] ∷ typed_lines xs) (with_byte x (typed_lines xs)) ≡ cond b (x ∷ []) (x ∷ take_through 10 xs) ∷ typed_lines (cond b xs (drop_through 10 xs))
    by rest true e none = absurd (none [] (ap (λ y. y ∷ []) (eqb-true x 10 e)))
    by rest false e none = more rest xs refl none

-- what was read, of a line that ends
pub read_ended : (old new : Option (List ℕ)) (front items body : List ℕ) → front ≡ [] → IfSome old (λ xs. items ≡ front ++ take_through 10 xs) → DropsThrough old new 10 → items ≡ body ++ 10 ∷ [] → IsFirst old body new
read_ended None new front items body none is drops ends = tt
read_ended (Some xs) new front items body none is drops ends = (drop_through 10 xs, drops, ended xs body (sym (is ∙ ap (λ f. f ++ take_through 10 xs) none) ∙ ends))

-- what was read, of the last line, which has no end
pub read_endless : (old new : Option (List ℕ)) (front items : List ℕ) → front ≡ [] → IfSome old (λ xs. items ≡ front ++ take_through 10 xs) → DropsThrough old new 10 → (length items ≡ 0 → ⊥) → ((body : List ℕ) → items ≡ body ++ 10 ∷ [] → ⊥) → IsFirst old items new
read_endless None new front items none is drops some without = tt
read_endless (Some xs) new front items none is drops some without =
    let all : items ≡ take_through 10 xs = is ∙ ap (λ f. f ++ take_through 10 xs) none in (
      drop_through 10 xs,
      drops,
      subst (λ l. typed_lines xs ≡ l ∷ typed_lines (drop_through 10 xs)) (sym all)
          (endless xs (λ e. some (ap length all ∙ ap (λ l. length (take_through 10 l)) e)) (λ body e. without body (all ∙ e))),
    )

pub read_none : (old : Option (List ℕ)) → IsAtEnd old → IfSome old (λ xs. typed_lines xs ≡ [])
unfolding typed_lines
read_none None end = tt
read_none (Some xs) end = ap typed_lines end

-- Bytes read pair by pair of digits.
use Rattle.script.proofs.Vocabulary.{arith, ◌≡◌, ℕ, ◌<◌, min, List, [], ◌∷◌, ◌++◌, length, Option, Some, None, refl, ap, sym, subst, append_assoc, option_and_then, byte_of, with_first, pairs_in}

abbrev pub with_front : List ℕ → Option (List ℕ) → Option (List ℕ)
with_front front rest = option_and_then (λ bytes. Some (front ++ bytes)) rest

pub one_pair : (digits pair rest : List ℕ) → digits ≡ pair ++ rest → length pair ≡ min 2 (length digits) → 0 < length digits → pairs_in digits ≡ option_and_then (λ b. with_first b (pairs_in rest)) (byte_of pair)
unfolding pairs_in
one_pair digits pair rest same = subst (λ ds. length pair ≡ min 2 (length ds) → 0 < length ds → pairs_in ds ≡ option_and_then (λ b. with_first b (pairs_in rest)) (byte_of pair)) (sym same) (by pair rest)
  where
    by : (pair rest : List ℕ) → length pair ≡ min 2 (length (pair ++ rest)) → 0 < length (pair ++ rest) → pairs_in (pair ++ rest) ≡ option_and_then (λ b. with_first b (pairs_in rest)) (byte_of pair)
    by [] [] len some = absurd (omega (arith, some))
    by [] (r ∷ rest) len some = absurd (omega (arith, len))
    by (p ∷ []) [] len some = refl
    by (p ∷ []) (r ∷ rest) len some = absurd (omega (arith, len))
    by (p ∷ q ∷ []) rest len some = refl
    by (p ∷ q ∷ x ∷ more) rest len some = absurd (omega (arith, len))

pub no_pair : (digits : List ℕ) → length digits ≡ 0 → pairs_in digits ≡ Some []
unfolding pairs_in
no_pair [] none = refl
no_pair (b ∷ bs) none = absurd (omega (arith, none))

pub push_front : (front : List ℕ) (b : ℕ) (rest : Option (List ℕ)) → with_front front (with_first b rest) ≡ with_front (front ++ b ∷ []) rest
push_front front b None = refl
push_front front b (Some bytes) = ap Some (sym (append_assoc front (b ∷ []) bytes))

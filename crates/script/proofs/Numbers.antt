-- A number read digit by digit.
use Rattle.script.proofs.Vocabulary.{◌≡◌, ◌≢◌, ℕ, ◌+◌, ◌<◌, ◌≤◌, List, [], ◌∷◌, length, drop, slice_index_or, Some, refl, at_drop_more, at_drop_all, option_and_then, with_digit, value_after, digits_in}

pub one_more : (radix v : ℕ) (bs : List ℕ) (i : ℕ) → i < length bs → value_after radix v (drop i bs) ≡ option_and_then (λ w. value_after radix w (drop (i + 1) bs)) (with_digit radix v (slice_index_or bs i 0))
unfolding value_after
one_more radix v bs i lt = at_drop_more (value_after radix v) bs i 0 lt

pub no_more : (radix v : ℕ) (bs : List ℕ) (i : ℕ) → length bs ≤ i → value_after radix v (drop i bs) ≡ Some v
unfolding value_after
no_more radix v bs i le = at_drop_all (value_after radix v) bs i le

pub some_digits : (radix : ℕ) (bs : List ℕ) → bs ≢ [] → digits_in radix bs ≡ value_after radix 0 bs
some_digits radix [] some = absurd (some refl)
some_digits radix (b ∷ bs) some = refl

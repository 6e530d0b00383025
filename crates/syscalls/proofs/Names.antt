-- The elements of a path are names that entries can have.
use Rattle.syscalls.proofs.Vocabulary.{◌≡◌, ◌≢◌, ◌<◌, ◌≤◌, ℕ, zero, suc, true, false, ◌==◌, not, nat_le, nat_lt, List, [], ◌∷◌, ◌++◌, filter, inl, inr, length, map, take, refl, arith, nat_tests, length-take, list_all, IsName, is_name, is_name_byte, Name, elements, is_empty, pieces, name_len_of, Version, either, eq_isnt, eq_not, IsPath}
use Rattle.image_versions.proofs.Places.{in_range}

abbrev pub AllNames : Version → List Name → Type 0
AllNames v [] = Unit {0}
AllNames v (e ∷ es) = IsName v e × AllNames v es

-- no byte of it is 0 or '/'
abbrev IsText : List ℕ → Type 0
IsText [] = Unit {0}
IsText (b ∷ bs) = (b ≢ 0) × (b ≢ 47) × IsText bs

abbrev AllTexts : List (List ℕ) → Type 0
AllTexts [] = Unit {0}
AllTexts (e ∷ es) = IsText e × AllTexts es

first_of : (b : ℕ) (bs : List ℕ) → IsPath (b ∷ bs) → b ≢ 0
first_of b bs all = all 0 b (omega arith)

rest_of : (b : ℕ) (bs : List ℕ) → IsPath (b ∷ bs) → IsPath bs
rest_of b bs all k d less = all (suc k) d (omega (arith, less))

text_more : (f : List ℕ) (b : ℕ) → IsText f → b ≢ 0 → b ≢ 47 → IsText (f ++ b ∷ [])
text_more [] b t some apart = (some, apart, tt)
text_more (x ∷ f) b t some apart = (t.0, t.1, text_more f b t.2 some apart)

text_take : (n : ℕ) (e : List ℕ) → IsText e → IsText (take n e)
text_take zero e t = tt
text_take (suc n) [] t = tt
text_take (suc n) (b ∷ bs) t = (t.0, t.1, text_take n bs t.2)

pieces_text : (f p : List ℕ) → IsText f → IsPath p → AllTexts (pieces f p)
unfolding pieces
pieces_text f [] tf tp = (tf, tt)
pieces_text f (b ∷ bs) tf tp = elim (either (b == 47)) [
  | inl y ↦ rw y (tf, pieces_text [] bs tt (rest_of b bs tp))
  | inr y ↦ rw y (pieces_text (f ++ b ∷ []) bs (text_more f b tf (first_of b bs tp) (eq_isnt b 47 y)) (rest_of b bs tp))
]

text_bytes : (e : List ℕ) → IsText e → list_all is_name_byte e ≡ true
text_bytes [] t = refl
text_bytes (b ∷ bs) t =
    let some : (b == 0) ≡ false = eq_not b 0 t.0 in
    let apart : (b == 47) ≡ false = eq_not b 47 t.1 in
    rw (some, apart) (text_bytes bs t.2)

is_named : (v : Version) (e : List ℕ) → 0 < length e → length e ≤ name_len_of v → IsText e → is_name v e ≡ true
is_named v e long short t =
    let some : nat_lt 0 (length e) ≡ true = grind (arith, nat_tests, long) in
    let fits : nat_le (length e) (name_len_of v) ≡ true = grind (arith, nat_tests, short) in
    rw (some, fits) (text_bytes e t)

name_of : (v : Version) (b : ℕ) (bs : List ℕ) → IsText (b ∷ bs) → is_name v (take (name_len_of v) (b ∷ bs)) ≡ true
name_of v b bs t =
    let name = take (name_len_of v) (b ∷ bs) in
    let a = length-take (name_len_of v) (b ∷ bs) in
    is_named v name (omega (arith, in_range v, a)) (omega (arith, a)) (text_take (name_len_of v) (b ∷ bs) t)

names_of : (v : Version) (es : List (List ℕ)) → AllTexts es → AllNames v (map (λ e. take (name_len_of v) e) (filter (λ e. not (is_empty e)) es))
names_of v [] t = tt
names_of v ([] ∷ es) t = names_of v es t.1
names_of v ((b ∷ bs) ∷ es) t = (name_of v b bs t.0, names_of v es t.1)

pub path_names : (v : Version) (path : List ℕ) → IsPath path → AllNames v (elements v path)
path_names v path is = names_of v (pieces [] path) (pieces_text [] path tt is)

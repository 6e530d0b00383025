-- No call that may start has a limit above a million steps.
use Rattle.run_laws.proofs.Vocabulary.{◌≡◌, ◌≤◌, ◌+◌, ◌-◌, ◌*◌, ◌/◌, ◌==◌, ℕ, Bool, true, false, not, nat_lt, if◌then◌else◌, cond, List, [], ◌∷◌, ◌++◌, length, filter, take, Some, None, refl, arith, inl, inr, div-mul-le_self, nat_tests, length-map, Call, piece_count, elements, is_empty, pieces, name_len_of, either, is_nothing, limit, path_cost, asked_limit, PathTooLong, ZeroInPath, NotCovered, TooLong, are_bytes, asks_wrong, has_zero, is_covered, path_limit, path_wrong, both_paths, most_steps, Version}
use Rattle.plain_tree.specs.declared.call.Call.TheVariants as calls

at_most : (n k : ℕ) → nat_lt k n ≡ false → n ≤ k
at_most n k e = grind (arith, nat_tests)

-- ---- paths

few_left : {X : Type 0} (p : X → Bool) (xs : List X) → length (filter p xs) ≤ length xs
few_left p [] = omega arith
few_left p (x ∷ xs) = by (p x) (few_left p xs)
  where
    by : (b : Bool) → length (filter p xs) ≤ length xs → length (cond b (x ∷ filter p xs) (filter p xs)) ≤ length (x ∷ xs)
    by true a = omega (arith, a)
    by false a = omega (arith, a)

few_pieces : (f p : List ℕ) → length (pieces f p) ≤ length p + 1
unfolding pieces
few_pieces f [] = omega arith
few_pieces f (b ∷ bs) = elim (either (b == 47)) [
  | inl y ↦ rw y (let a = few_pieces [] bs in omega (arith, a))
  | inr y ↦ rw y (let a = few_pieces (f ++ b ∷ []) bs in omega (arith, a))
]

-- no more than bytes, and one
few_elements : (version : Version) (p : List ℕ) → length (elements version p) ≤ length p + 1
few_elements version p =
    let named : List (List ℕ) = filter (λ e. not (is_empty e)) (pieces [] p) in
    let a : length (elements version p) ≡ length named = length-map named (λ e. take (name_len_of version) e) in
    let b = few_left (λ e. not (is_empty e)) (pieces [] p) in
    let c = few_pieces [] p in
    omega (arith, a, b, c)

short_path : (p : List ℕ) → is_nothing (path_wrong p) ≡ true → length p ≤ 127
short_path p e = by (nat_lt path_limit (length p)) refl e
  where
    by : (a : Bool) → nat_lt path_limit (length p) ≡ a → is_nothing (if a then Some PathTooLong else (if has_zero p then Some ZeroInPath else (if are_bytes p then None else Some NotCovered))) ≡ true → length p ≤ 127
    by true q e = absurd cc
    by false q e = at_most (length p) 127 q

path_few : (version : Version) (p : List ℕ) → is_nothing (path_wrong p) ≡ true → path_cost version p ≤ 335400
path_few version p e = let a = few_elements version p in let b = short_path p e in omega (arith, a, b)

-- ---- pieces

few_asked : (n : ℕ) → is_nothing (asks_wrong n) ≡ true → n ≤ 524288
few_asked n e = by (nat_lt asked_limit n) refl e
  where
    by : (a : Bool) → nat_lt asked_limit n ≡ a → is_nothing (if a then Some TooLong else None) ≡ true → n ≤ 524288
    by true q e = absurd cc
    by false q e = at_most n 524288 q

few_parts : (bytes : List ℕ) → length bytes ≤ 524288 → piece_count bytes ≤ 171
few_parts bytes few = by (length bytes == 0)
  where
    by : (none : Bool) → (if none then 1 else (length bytes + (3072 - 1)) / 3072) ≤ 171
    by true = omega arith
    by false = let a : (length bytes + (3072 - 1)) / 3072 * 3072 ≤ length bytes + (3072 - 1) = div-mul-le_self (length bytes + (3072 - 1)) 3072 in omega (arith, a, few)

-- ---- calls

pub limits : (version : Version) (call : Call) → is_covered call ≡ true → limit version call ≤ most_steps
limits version (calls.Open path flags) e = let a = path_few version path e in omega (arith, a)
limits version (calls.Read fd buffer) e = omega arith
limits version (calls.Write fd bytes) e = let a = few_parts bytes (few_asked (length bytes) e) in omega (arith, a)
limits version (calls.Link old new) e = let two = both_paths old new e in let a = path_few version old two.0 in let b = path_few version new two.1 in omega (arith, a, b)
limits version (calls.Unlink path) e = let a = path_few version path e in omega (arith, a)
limits version (calls.Mkdir path) e = let a = path_few version path e in omega (arith, a)
limits version (calls.Chdir path) e = let a = path_few version path e in omega (arith, a)
limits version (calls.Dup fd) e = omega arith
limits version (calls.Fstat fd) e = omega arith
limits version (calls.Close fd) e = omega arith
limits version (calls.Inherit child) e = omega arith

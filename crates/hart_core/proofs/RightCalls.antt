-- What a start asks of a call: a path has at most one element for each two of its bytes, so its references have room on the list.
use Rattle.hart_core.proofs.Vocabulary.{◌≡◌, ℕ, suc, ◌+◌, ◌*◌, ◌^◌, ◌<◌, ◌≤◌, Bool, true, false, not, List, [], ◌∷◌, ◌++◌, length, map, filter, take, None, if◌then◌else◌, ◌==◌, arith, elements, is_empty, pieces, name_len_of, Version, Call, Open, Read, Write, Link, Unlink, Mkdir, Chdir, Dup, Fstat, Close, Inherit, most_listed, IsCall, IsPath, longest_path, path_fault, part_fault, fault_of}
use Rattle.std.proofs.lemmas.List.{length-append}
use Rattle.hart_core.proofs.Refusals.{right_path, right_paths, right_part}

-- how many of them aren't empty
count : Version → List (List ℕ) → ℕ
count v ps = length (map (λ e. take (name_len_of v) e) (filter (λ e. not (is_empty e)) ps))

front_count : (v : Version) (w : List ℕ) (ps : List (List ℕ)) (n : ℕ) → 2 * count v ps ≤ n + 1 → 2 * count v (w ∷ ps) ≤ length w + n + 2
unfolding count
front_count v [] ps n few = omega (arith, few)
front_count v (x ∷ xs) ps n few = omega (arith, few)

pieces_few : (v : Version) (acc bs : List ℕ) → 2 * count v (pieces acc bs) ≤ length acc + length bs + 1
unfolding pieces count
pieces_few v [] [] = omega arith
pieces_few v (x ∷ xs) [] = omega arith
pieces_few v acc (b ∷ bs) = let few : 2 * count v (pieces [] bs) ≤ 0 + length bs + 1 = pieces_few v [] bs in each (b == 47) (omega (arith, few)) (pieces_few v (acc ++ b ∷ []) bs)
  where
    each : (c : Bool) → 2 * count v (pieces [] bs) ≤ length bs + 1 → 2 * count v (pieces (acc ++ b ∷ []) bs) ≤ length (acc ++ b ∷ []) + length bs + 1
        → 2 * count v (if c then acc ∷ pieces [] bs else pieces (acc ++ b ∷ []) bs) ≤ length acc + suc (length bs) + 1
    each true few more = let bound : 2 * count v (acc ∷ pieces [] bs) ≤ length acc + length bs + 2 = front_count v acc (pieces [] bs) (length bs) few in omega (arith, bound)
    each false few more = let long : length (acc ++ b ∷ []) ≡ length acc + 1 = length-append acc (b ∷ []) in omega (arith, more, long)

few_elements : (v : Version) (path : List ℕ) → length path ≤ longest_path → length (elements v path) ≤ 64
unfolding count
few_elements v path short = let few : 2 * length (elements v path) ≤ 0 + length path + 1 = pieces_few v [] path in omega (arith, few, short)

-- a path without a fault
is_path : (v : Version) (path : List ℕ) → path_fault path ≡ None → IsPath path × (length (elements v path) ≤ most_listed)
is_path v path right =
    let whole = right_path path right in
    let few : length (elements v path) ≤ 64 = few_elements v path whole.0 in
    (whole.1, omega (arith, few))

are_paths : (v : Version) (old new : List ℕ) → path_fault old ≡ None → path_fault new ≡ None → IsPath old × IsPath new × (length (elements v old) + length (elements v new) ≤ most_listed)
are_paths v old new right fine =
    let one = right_path old right in
    let two = right_path new fine in
    let few : length (elements v old) ≤ 64 = few_elements v old one.0 in
    let more : length (elements v new) ≤ 64 = few_elements v new two.0 in
    (one.1, two.1, omega (arith, few, more))

-- a part that isn't too long
is_part : (bytes : List ℕ) → part_fault bytes ≡ None → length bytes < 2 ^ 31
is_part bytes right = let few = right_part bytes right in omega (arith, few)

-- a call without a fault is one that may begin
pub right_call : (v : Version) (call : Call) → fault_of call ≡ None → IsCall v call
right_call v (Open path flags) right = is_path v path right
right_call v (Read fd buffer) right = is_part buffer right
right_call v (Write fd bytes) right = is_part bytes right
right_call v (Link old new) right = let both = right_paths old new right in are_paths v old new both.0 both.1
right_call v (Unlink path) right = is_path v path right
right_call v (Mkdir path) right = is_path v path right
right_call v (Chdir path) right = is_path v path right
right_call v (Dup fd) right = tt
right_call v (Fstat fd) right = tt
right_call v (Close fd) right = tt
right_call v (Inherit child) right = tt

-- Laws of `overwrite`.
use Rattle.fs_layout.proofs.Vocabulary.{◌≡◌, ℕ, ◌+◌, ◌-◌, ◌<◌, ◌≤◌, ◌*◌, ◌≢◌, ⊎_elim, List, [], ◌++◌, length, take, drop, refl, sym, ap, ◌∙◌, arith, append_assoc, length-append, length-drop, append-nil, length-take-le, take_at, drop_at, drop-drop, drop_all, take_rest, drop-take, take-take, take-append-le, mul-le-mul_left, cases_lt, overwrite, record_at}
use borrow.Rule.Slice.PartMut.{put_mid}

-- a write at the front of `&mut s[a..]`
pub put_mid-tail : (xs ys zs : List ℕ) (a : ℕ)
    → a + length zs ≤ length xs
    → ys ≡ zs ++ drop (length zs) (take (length xs - a) (drop a xs))
    → put_mid a (length xs - a) xs ys ≡ overwrite xs a zs
put_mid-tail xs ys zs a h e =
    let all : take (length xs - a) (drop a xs) ≡ drop a xs = take_rest xs a in
    let none : drop (length xs - a) (drop a xs) ≡ [] = drop_all (length xs - a) (drop a xs) (omega (arith, length-drop a xs)) in
    rw (e, all, none, append-nil, drop-drop) refl

-- two writes side by side are one
pub overwrite-overwrite : (block xs ys : List ℕ) (at : ℕ)
    → at ≤ length block
    → overwrite (overwrite block at xs) (at + length xs) ys ≡ overwrite block at (xs ++ ys)
overwrite-overwrite block xs ys at h =
    let front : length (take at block ++ xs) ≡ at + length xs = omega (arith, length-append (take at block) xs, length-take-le at block h) in
    let rest : List ℕ = drop (at + length xs) block in
    let whole : overwrite block at xs ≡ (take at block ++ xs) ++ rest = sym (append_assoc (take at block) xs rest) in
    let low : take (at + length xs) (overwrite block at xs) ≡ take at block ++ xs =
    ap (take (at + length xs)) whole ∙ take_at (take at block ++ xs) rest (at + length xs) front in
    let high : drop (at + length xs + length ys) (overwrite block at xs) ≡ drop (at + length (xs ++ ys)) block =
    sym (drop-drop (length ys) (at + length xs) (overwrite block at xs))
    ∙ ap (drop (length ys)) (ap (drop (at + length xs)) whole ∙ drop_at (take at block ++ xs) rest (at + length xs) front)
    ∙ drop-drop (length ys) (at + length xs) block
    ∙ ap (λ (n : ℕ). drop n block) (omega (arith, length-append xs ys)) in
    rw (low, high, append_assoc, append_assoc) refl

-- the length stays
pub length-overwrite : (block bytes : List ℕ) (at : ℕ) → at + length bytes ≤ length block → length (overwrite block at bytes) ≡ length block
length-overwrite block bytes at h =
    simp (length-append, length-drop) (omega (arith, length-take-le at block (omega arith)))

-- a write right after what was written
pub then_overwrite : (b0 b1 b2 xs ys : List ℕ) (at k : ℕ)
    → b1 ≡ overwrite b0 at xs → b2 ≡ overwrite b1 k ys → k ≡ at + length xs → at ≤ length b0
    → b2 ≡ overwrite b0 at (xs ++ ys)
then_overwrite b0 b1 b2 xs ys at k e f g h =
    f ∙ ap (λ (i : ℕ). overwrite b1 i ys) g ∙ ap (λ (b : List ℕ). overwrite b (at + length xs) ys) e ∙ overwrite-overwrite b0 xs ys at h

-- what was written is there
pub part-overwrite : (block bytes : List ℕ) (at n : ℕ) → at ≤ length block → length bytes ≡ n → take n (drop at (overwrite block at bytes)) ≡ bytes
part-overwrite block bytes at n h l =
    ap (take n) (drop_at (take at block) (bytes ++ drop (at + length bytes) block) at (length-take-le at block h))
    ∙ take_at bytes (drop (at + length bytes) block) n l

-- before and after it nothing changed
pub part-overwrite_below : (block bytes : List ℕ) (at k n : ℕ) → at ≤ length block → k + n ≤ at → take n (drop k (overwrite block at bytes)) ≡ take n (drop k block)
part-overwrite_below block bytes at k n h l =
    let rest : List ℕ = bytes ++ drop (at + length bytes) block in
    let front : length (take at block) ≡ at = length-take-le at block h in
    sym (drop-take k n (overwrite block at bytes))
    ∙ ap (drop k) (take-append-le (k + n) (take at block) rest (omega arith) ∙ take-take (k + n) at block l)
    ∙ drop-take k n block

pub part-overwrite_above : (block bytes : List ℕ) (at k n : ℕ) → at ≤ length block → at + length bytes ≤ k → take n (drop k (overwrite block at bytes)) ≡ take n (drop k block)
part-overwrite_above block bytes at k n h l =
    let front : length (take at block ++ bytes) ≡ at + length bytes = omega (arith, length-append (take at block) bytes, length-take-le at block h) in
    let rest : List ℕ = drop (at + length bytes) block in
    let split : k ≡ at + length bytes + (k - (at + length bytes)) = omega arith in
    let whole : overwrite block at bytes ≡ (take at block ++ bytes) ++ rest = sym (append_assoc (take at block) bytes rest) in
    let high : drop k (overwrite block at bytes) ≡ drop k block =
    ap (λ (i : ℕ). drop i (overwrite block at bytes)) split
    ∙ sym (drop-drop (k - (at + length bytes)) (at + length bytes) (overwrite block at bytes))
    ∙ ap (drop (k - (at + length bytes))) (ap (drop (at + length bytes)) whole ∙ drop_at (take at block ++ bytes) rest (at + length bytes) front)
    ∙ drop-drop (k - (at + length bytes)) (at + length bytes) block
    ∙ ap (λ (i : ℕ). drop i block) (sym split) in
    ap (take n) high

-- another record of the same size is as it was
pub record_at-overwrite : (size p q : ℕ) (block bytes : List ℕ) → length bytes ≡ size → size * p ≤ length block → q ≢ p
    → record_at size q (overwrite block (size * p) bytes) ≡ record_at size q block
record_at-overwrite size p q block bytes l h ne =
    ⊎_elim
    (λ (below : q < p). part-overwrite_below block bytes (size * p) (size * q) size h (let m : size * (q + 1) ≤ size * p = mul-le-mul_left size (omega arith) in omega arith))
    (λ (above : p ≤ q). part-overwrite_above block bytes (size * p) (size * q) size h (let m : size * (p + 1) ≤ size * q = mul-le-mul_left size (omega arith) in omega arith))
    (cases_lt q p)

-- A piece of a write is bytes, at least one.
use Rattle.calls_on_blocks.proofs.Vocabulary.{◌≡◌, ◌<◌, ◌≤◌, ℕ, zero, suc, ◌+◌, ◌-◌, ◌*◌, ◌/◌, ◌==◌, if◌then◌else◌, refl, nat_lt, Bool, true, false, List, [], ◌∷◌, length, arith, nat_tests, length-take, length-drop, le-div_iff_mul-le, IsBytes, piece, piece_count, piece_len, and_true, eq_is, are_bytes, drop_bytes, take_bytes}
use Rattle.std.proofs.Common.{drop}

byte_is : (b : ℕ) → nat_lt b 256 ≡ true → b < 256
byte_is b e = grind (arith, nat_tests)

pub bytes_are : (bytes : List ℕ) → are_bytes bytes ≡ true → IsBytes bytes
bytes_are [] e i = omega arith
bytes_are (b ∷ bs) e zero = byte_is b (and_true (nat_lt b 256) (are_bytes bs) e).0
bytes_are (b ∷ bs) e (suc i) = bytes_are bs (and_true (nat_lt b 256) (are_bytes bs) e).1 i

pub piece_bytes : (bytes : List ℕ) (i : ℕ) → IsBytes bytes → IsBytes (piece bytes i)
piece_bytes bytes i are = take_bytes piece_len (drop (piece_len * i) bytes) (drop_bytes (piece_len * i) bytes are)

-- each begins within the bytes
begins_within : (n i : ℕ) → 0 < n → (none : Bool) → (n == 0) ≡ none → i < (if none then 1 else (n + (3072 - 1)) / 3072) → 3072 * i < n
begins_within n i some true e lt = absurd (let a = eq_is n 0 e in omega (arith, a, some))
begins_within n i some false e lt =
    let q : i + 1 ≤ (n + (3072 - 1)) / 3072 = omega (arith, lt) in
    let a = (le-div_iff_mul-le {k = 3072} {x = i + 1} {y = n + (3072 - 1)} (omega arith)).0 q in
    omega (arith, a)

-- so each has a byte at least
pub piece_some : (bytes : List ℕ) (i : ℕ) → 0 < length bytes → i < piece_count bytes → 0 < length (piece bytes i)
piece_some bytes i some lt =
    let a = begins_within (length bytes) i some (length bytes == 0) refl lt in
    let t = length-take piece_len (drop (piece_len * i) bytes) in
    let d = length-drop (piece_len * i) bytes in
    omega (arith, a, t, d)

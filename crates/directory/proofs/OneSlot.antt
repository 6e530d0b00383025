-- The bytes of a slot.
use Rattle.directory.proofs.Vocabulary.{◌≡◌, ℕ, ◌+◌, ◌*◌, ◌<◌, ◌≤◌, List, length, drop, get_or, replicate, arith, ⊎_elim, length-drop, cases_lt, length-replicate, length-take, length-take-le, get_or-take, get_or-drop, get_or_past, get_or-replicate, record_at, IsBytes, Version, dirent_len_of}

pub record IsSlot (v : Version) (bytes : List ℕ) : Type 0 where
  pub long : length bytes ≡ dirent_len_of v
  pub fits : IsBytes bytes

-- one of the slots in a row of bytes
pub slot_in : (v : Version) (slots : List ℕ) (p : ℕ) → dirent_len_of v * p + dirent_len_of v ≤ length slots → IsBytes slots
    → IsSlot v (record_at (dirent_len_of v) p slots)
slot_in v slots p within fits =
    let len : ℕ = dirent_len_of v in
    let from : ℕ = dirent_len_of v * p in
    let rest : List ℕ = drop from slots in record {
      long = length-take-le len rest (omega (arith, length-drop from slots));
      fits = λ i.
          ⊎_elim
          (λ (low : i < len). omega (arith, get_or-take len rest i 0 low, get_or-drop from slots i 0, fits (from + i)))
          (λ (high : len ≤ i). omega (arith, get_or_past (record_at (dirent_len_of v) p slots) i 0 (omega (arith, length-take len rest))))
          (cases_lt i len);
    }

-- the bytes from a place on
pub rest_fits : (n : ℕ) (bytes : List ℕ) → IsBytes bytes → IsBytes (drop n bytes)
rest_fits n bytes fits i = omega (arith, get_or-drop n bytes i 0, fits (n + i))

pub zeros_at : (n i : ℕ) → ◌≡◌ {A = ℕ} (get_or (replicate n 0) i 0) 0
zeros_at n i =
    ⊎_elim
    (λ (low : i < n). get_or-replicate {A = ℕ} n i 0 0 low)
    (λ (high : n ≤ i). get_or_past (replicate n 0) i 0 (omega (arith, length-replicate {A = ℕ} n 0)))
    (cases_lt i n)

-- Bytes compared by words.
use Rattle.directory.proofs.Vocabulary.{◌≡◌, ◌≢◌, ℕ, zero, suc, ◌+◌, ◌-◌, ◌*◌, ◌<◌, ◌≤◌, List, take, drop, get_or, ap, ◌∙◌, arith, ⊎_elim, cases_eq, drop-drop, drop-take, little_from, little_number, little_from-take, IsBytes, u64_at}

same_digit : (a b r s : ℕ) → a < 256 → b < 256 → a + 256 * r ≡ b + 256 * s → (a ≡ b) × (r ≡ s)
same_digit a b r s ha hb e = (omega arith, omega arith)

-- bytes that make one number are the same
pub same_bytes : (n i : ℕ) (xs ys : List ℕ) → IsBytes xs → IsBytes ys → little_from i n xs ≡ little_from i n ys
    → (k : ℕ) → i ≤ k → k < i + n → get_or xs k 0 ≡ get_or ys k 0
same_bytes zero i xs ys fx fy e k h l = absurd (omega arith)
same_bytes (suc n) i xs ys fx fy e k h l =
    let d = same_digit (get_or xs i 0) (get_or ys i 0) (little_from (suc i) n xs) (little_from (suc i) n ys) (fx i) (fy i) e in
    ⊎_elim
    (λ (q : i ≡ k). rw q at d.0)
    (λ (ne : i ≢ k). same_bytes n (suc i) xs ys fx fy d.1 k (omega arith) (omega arith))
    (cases_eq i k)

-- a word at place k of a part is the whole's at place at + k
pub u64_at-part : (bytes : List ℕ) (at n k : ℕ) → k + 8 ≤ n → u64_at (take n (drop at bytes)) k ≡ u64_at bytes (at + k)
unfolding u64_at
u64_at-part bytes at n k h =
    let split : n ≡ k + (n - k) = omega arith in
    ap (λ (m : ℕ). little_number 8 (drop k (take m (drop at bytes)))) split
    ∙ ap (little_number 8) (drop-take k (n - k) (drop at bytes))
    ∙ little_from-take 0 8 (n - k) (drop k (drop at bytes)) (omega arith)
    ∙ ap (little_number 8) (drop-drop k at bytes)

pub u64_at-drop : (bytes : List ℕ) (at k : ℕ) → u64_at (drop at bytes) k ≡ u64_at bytes (at + k)
unfolding u64_at
u64_at-drop bytes at k = ap (little_number 8) (drop-drop k at bytes)

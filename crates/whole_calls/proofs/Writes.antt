-- Piece by piece.
use Rattle.whole_calls.proofs.Vocabulary.{◌≡◌, ◌≢◌, ℕ, zero, suc, ◌+◌, ◌-◌, List, [], ◌∷◌, length, refl, ap, arith, Reply, Do, unmarked, Join, P, write_from, write_piece, write_program, more_of, write_of}
use Rattle.whole_calls.specs.declared.writing.Write.TheVariants as writing

pub from_is : (fd n : ℕ) (bytes : List ℕ) (more i : ℕ) → write_piece fd n bytes i (more_of fd bytes n more i) ≡ write_from fd n bytes more i
from_is fd n bytes zero i = refl
from_is fd n bytes (suc left) i = refl

pub more_is : (fd n : ℕ) (bytes : List ℕ) (more i : ℕ) → more ≢ 0 → Do Join unmarked (λ _. write_from fd n bytes (more - 1) (i + 1)) ≡ more_of fd bytes n more i
more_is fd n bytes zero i some = absurd (some refl)
more_is fd n bytes (suc left) i some = let e : suc left - 1 ≡ left = omega arith in ap (λ (k : ℕ). let p : P Reply = Do Join unmarked (λ _. write_from fd n bytes k (i + 1)) in p) e

pub begins_is : (fd : ℕ) (bytes : List ℕ) → length bytes ≢ 0 → write_of fd bytes writing.Join ≡ write_program fd bytes
begins_is fd [] some = absurd (some refl)
begins_is fd (b ∷ bs) some = refl

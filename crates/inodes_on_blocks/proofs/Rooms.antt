-- A transaction that may record one block more has room for any.
use Rattle.inodes_on_blocks.proofs.Vocabulary.{◌≡◌, ℕ, zero, suc, ◌<◌, List, [], ◌∷◌, Option, Some, None, arith, slice_get, HasRoom}

pub room_of : (members : List (Option ℕ)) (h k : ℕ) → slice_get members h ≡ Some (Some k) → k < 10 → HasRoom members h
room_of [] h k e lt = absurd (let q : None ≡ Some (Some k) = e in cc)
room_of (None ∷ ms) zero k e lt = absurd (let q : Some None ≡ Some (Some k) = e in cc)
room_of (Some j ∷ ms) zero k e lt = let q : Some (Some j) ≡ Some (Some k) = e in let same : j ≡ k = cc in omega (arith, same, lt)
room_of (None ∷ ms) (suc h) k e lt = room_of ms h k e lt
room_of (Some j ∷ ms) (suc h) k e lt = room_of ms h k e lt

-- A seat's reply is in the list.
use Rattle.hart_runner.proofs.Vocabulary.{ℕ, ◌≡◌, ◌<◌, ◌++◌, ◌∷◌, [], ◌∙◌, List, All, Some, length, slice_get, slice_index_or, sym, ap, subst, arith, slice_get_read, length-append, get_or-append_seam, StoredRun, replies_of, Reply, SeatV}

-- what was added last is there
pub added : (xs : List Reply) (v : Reply) → slice_get (xs ++ v ∷ []) (length xs) ≡ Some v
added xs v = slice_get_read (xs ++ v ∷ []) (length (xs ++ v ∷ [])) (length xs) v (λ i. length (xs ++ v ∷ [])) (omega (arith, length-append xs (v ∷ []))) (sym (get_or-append_seam xs v [] v))

-- a reply of the seat at this place of the row
pub stands : (c : StoredRun) (seats : List SeatV) (k : ℕ) (t : SeatV) (hart place : ℕ) (v : Reply) → All (λ s. s.replies ≡ replies_of s.hart c) seats → k < length seats → slice_index_or seats k t ≡ t → hart ≡ t.hart → slice_get t.replies place ≡ Some v → slice_get (replies_of hart c) place ≡ Some v
stands c seats k t hart place v all lt at is has =
    let e : t.replies ≡ replies_of t.hart c = subst (λ (s : SeatV). s.replies ≡ replies_of s.hart c) at (all k t lt) in
    ap (λ h. slice_get (replies_of h c) place) is ∙ (ap (λ xs. slice_get xs place) (sym e) ∙ has)

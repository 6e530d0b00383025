-- How the rooms of the transactions change.
use Rattle.group_log.proofs.Vocabulary.{◌≡◌, ℕ, zero, suc, ◌+◌, ◌*◌, ◌<◌, ◌≤◌, List, [], ◌∷◌, length, cond, Option, Some, None, is_some, slice_get, slice_set, get_or, refl, sym, ap, arith, sum_by-cons, joined, rooms, HasRoom, IsMember, one_more}

joined-cons : (m : Option ℕ) (ms : List (Option ℕ)) → joined (m ∷ ms) ≡ cond (is_some m) 1 0 + joined ms
joined-cons m ms = sum_by-cons (λ (x : Option ℕ). cond (is_some x) 1 0) m ms

pub rooms_le : (ms : List (Option ℕ)) → rooms ms ≤ 10 * joined ms
rooms_le [] = omega arith
rooms_le (None ∷ ms) = let a = rooms_le ms in let b = joined-cons None ms in omega (arith, a, b)
rooms_le (Some k ∷ ms) = let a = rooms_le ms in let b = joined-cons (Some k) ms in omega (arith, a, b)

pub rooms_join : (ms : List (Option ℕ)) (i : ℕ) → slice_get ms i ≡ Some None → rooms (slice_set ms i (Some 0)) ≡ rooms ms + 10
rooms_join [] i e = absurd (cc e)
rooms_join (None ∷ ms) zero e = omega arith
rooms_join (Some k ∷ ms) zero e = absurd (cc e)
rooms_join (None ∷ ms) (suc i) e = rooms_join ms i e
rooms_join (Some k ∷ ms) (suc i) e = let a = rooms_join ms i e in omega (arith, a)

pub rooms_leave : (ms : List (Option ℕ)) (i : ℕ) → rooms (slice_set ms i None) ≤ rooms ms
rooms_leave [] i = omega arith
rooms_leave (None ∷ ms) zero = omega arith
rooms_leave (Some k ∷ ms) zero = omega arith
rooms_leave (None ∷ ms) (suc i) = rooms_leave ms i
rooms_leave (Some k ∷ ms) (suc i) = let a = rooms_leave ms i in omega (arith, a)

pub rooms_record : (ms : List (Option ℕ)) (i k : ℕ) → slice_get ms i ≡ Some (Some k) → k < 10 → rooms (slice_set ms i (Some (k + 1))) + 1 ≡ rooms ms
rooms_record [] i k e lt = absurd (cc e)
rooms_record (None ∷ ms) zero k e lt = absurd (cc e)
rooms_record (Some j ∷ ms) zero k e lt = let a : j ≡ k = cc e in omega (arith, a, lt)
rooms_record (None ∷ ms) (suc i) k e lt = rooms_record ms i k e lt
rooms_record (Some j ∷ ms) (suc i) k e lt = let a = rooms_record ms i k e lt in omega (arith, a)

pub length-set_member : (ms : List (Option ℕ)) (i : ℕ) (m : Option ℕ) → length (slice_set ms i m) ≡ length ms
length-set_member [] i m = refl
length-set_member (x ∷ ms) zero m = refl
length-set_member (x ∷ ms) (suc i) m = ap suc (length-set_member ms i m)

pub rooms_one_more : (ms : List (Option ℕ)) (i : ℕ) → HasRoom ms i → rooms (one_more ms i) + 1 ≡ rooms ms
rooms_one_more [] i has_room = absurd has_room
rooms_one_more (None ∷ ms) zero has_room = absurd has_room
rooms_one_more (Some k ∷ ms) zero has_room = omega (arith, has_room)
rooms_one_more (None ∷ ms) (suc i) has_room = rooms_one_more ms i has_room
rooms_one_more (Some k ∷ ms) (suc i) has_room = let a = rooms_one_more ms i has_room in omega (arith, a)

pub length-one_more : (ms : List (Option ℕ)) (i : ℕ) → length (one_more ms i) ≡ length ms
length-one_more [] i = refl
length-one_more (None ∷ ms) zero = refl
length-one_more (Some k ∷ ms) zero = refl
length-one_more (None ∷ ms) (suc i) = ap suc (length-one_more ms i)
length-one_more (Some k ∷ ms) (suc i) = ap suc (length-one_more ms i)

-- what a read and a write of one member are
pub one_more_at : (ms : List (Option ℕ)) (i k : ℕ) → get_or ms i None ≡ Some k → slice_set ms i (Some (k + 1)) ≡ one_more ms i
one_more_at [] i k e = refl
one_more_at (None ∷ ms) zero k e = absurd (cc e)
one_more_at (Some j ∷ ms) zero k e = let a : j ≡ k = cc e in ap (λ (n : ℕ). Some (n + 1) ∷ ms) (sym a)
one_more_at (None ∷ ms) (suc i) k e = ap (λ (l : List (Option ℕ)). None ∷ l) (one_more_at ms i k e)
one_more_at (Some j ∷ ms) (suc i) k e = ap (λ (l : List (Option ℕ)). Some j ∷ l) (one_more_at ms i k e)

pub room_below : (ms : List (Option ℕ)) (i k : ℕ) → get_or ms i None ≡ Some k → HasRoom ms i → k < 10
room_below [] i k e has_room = absurd has_room
room_below (None ∷ ms) zero k e has_room = absurd has_room
room_below (Some j ∷ ms) zero k e has_room = let a : j ≡ k = cc e in omega (arith, a, has_room)
room_below (None ∷ ms) (suc i) k e has_room = room_below ms i k e has_room
room_below (Some j ∷ ms) (suc i) k e has_room = room_below ms i k e has_room

pub room_some : (ms : List (Option ℕ)) (i : ℕ) → get_or ms i None ≡ None → HasRoom ms i → ⊥
room_some [] i e has_room = has_room
room_some (None ∷ ms) zero e has_room = has_room
room_some (Some j ∷ ms) zero e has_room = cc e
room_some (None ∷ ms) (suc i) e has_room = room_some ms i e has_room
room_some (Some j ∷ ms) (suc i) e has_room = room_some ms i e has_room

-- a member is one of those who joined
pub member_joined : (ms : List (Option ℕ)) (i : ℕ) → IsMember ms i → 1 ≤ joined ms
member_joined [] i is = absurd is
member_joined (None ∷ ms) zero is = absurd is
member_joined (Some k ∷ ms) zero is = let a = joined-cons (Some k) ms in omega (arith, a)
member_joined (None ∷ ms) (suc i) is = let a = member_joined ms i is in let b = joined-cons None ms in omega (arith, a, b)
member_joined (Some k ∷ ms) (suc i) is = let a = member_joined ms i is in let b = joined-cons (Some k) ms in omega (arith, a, b)

pub member_below : (ms : List (Option ℕ)) (i : ℕ) → IsMember ms i → i < length ms
member_below [] i is = absurd is
member_below (None ∷ ms) zero is = absurd is
member_below (Some k ∷ ms) zero is = omega arith
member_below (None ∷ ms) (suc i) is = let a = member_below ms i is in omega (arith, a)
member_below (Some k ∷ ms) (suc i) is = let a = member_below ms i is in omega (arith, a)

pub member_leaves : (ms : List (Option ℕ)) (i : ℕ) → IsMember ms i → joined (slice_set ms i None) + 1 ≡ joined ms
member_leaves [] i is = absurd is
member_leaves (None ∷ ms) zero is = absurd is
member_leaves (Some k ∷ ms) zero is = let a = joined-cons (Some k) ms in let b = joined-cons None ms in omega (arith, a, b)
member_leaves (None ∷ ms) (suc i) is = let a = member_leaves ms i is in let b = joined-cons None ms in let d = joined-cons None (slice_set ms i None) in omega (arith, a, b, d)
member_leaves (Some k ∷ ms) (suc i) is = let a = member_leaves ms i is in let b = joined-cons (Some k) ms in let d = joined-cons (Some k) (slice_set ms i None) in omega (arith, a, b, d)

-- one more joins; a block that one adds doesn't change how many have joined
pub joins_more : (ms : List (Option ℕ)) (i : ℕ) → slice_get ms i ≡ Some None → joined (slice_set ms i (Some 0)) ≡ joined ms + 1
joins_more [] i e = absurd (cc e)
joins_more (None ∷ ms) zero e = let a = joined-cons (Some 0) ms in let b = joined-cons None ms in omega (arith, a, b)
joins_more (Some k ∷ ms) zero e = absurd (cc e)
joins_more (None ∷ ms) (suc i) e = let a = joins_more ms i e in let b = joined-cons None ms in let d = joined-cons None (slice_set ms i (Some 0)) in omega (arith, a, b, d)
joins_more (Some k ∷ ms) (suc i) e = let a = joins_more ms i e in let b = joined-cons (Some k) ms in let d = joined-cons (Some k) (slice_set ms i (Some 0)) in omega (arith, a, b, d)

pub joined_one_more : (ms : List (Option ℕ)) (i : ℕ) → joined (one_more ms i) ≡ joined ms
joined_one_more [] i = refl
joined_one_more (None ∷ ms) zero = refl
joined_one_more (Some k ∷ ms) zero = let a = joined-cons (Some (k + 1)) ms in let b = joined-cons (Some k) ms in omega (arith, a, b)
joined_one_more (None ∷ ms) (suc i) = let a = joined_one_more ms i in let b = joined-cons None ms in let d = joined-cons None (one_more ms i) in omega (arith, a, b, d)
joined_one_more (Some k ∷ ms) (suc i) = let a = joined_one_more ms i in let b = joined-cons (Some k) ms in let d = joined-cons (Some k) (one_more ms i) in omega (arith, a, b, d)

-- a hart with a count is in a transaction, and has room if the count is low
pub member_at : (ms : List (Option ℕ)) (i k : ℕ) → get_or ms i None ≡ Some k → IsMember ms i
member_at [] i k e = absurd (cc e)
member_at (None ∷ ms) zero k e = absurd (cc e)
member_at (Some j ∷ ms) zero k e = tt
member_at (None ∷ ms) (suc i) k e = member_at ms i k e
member_at (Some j ∷ ms) (suc i) k e = member_at ms i k e

pub room_at : (ms : List (Option ℕ)) (i k : ℕ) → get_or ms i None ≡ Some k → k < 10 → HasRoom ms i
room_at [] i k e lt = absurd (cc e)
room_at (None ∷ ms) zero k e lt = absurd (cc e)
room_at (Some j ∷ ms) zero k e lt = let a : j ≡ k = cc e in omega (arith, a, lt)
room_at (None ∷ ms) (suc i) k e lt = room_at ms i k e lt
room_at (Some j ∷ ms) (suc i) k e lt = room_at ms i k e lt

pub none_past : (ms : List (Option ℕ)) (i : ℕ) → length ms ≤ i → get_or ms i None ≡ None
none_past [] i le = refl
none_past (None ∷ ms) zero le = refl
none_past (Some j ∷ ms) zero le = absurd (omega (arith, le))
none_past (None ∷ ms) (suc i) le = none_past ms i (omega (arith, le))
none_past (Some j ∷ ms) (suc i) le = none_past ms i (omega (arith, le))

pub member_some : (ms : List (Option ℕ)) (i : ℕ) → get_or ms i None ≡ None → IsMember ms i → ⊥
member_some [] i e is = is
member_some (None ∷ ms) zero e is = is
member_some (Some j ∷ ms) zero e is = cc e
member_some (None ∷ ms) (suc i) e is = member_some ms i e is
member_some (Some j ∷ ms) (suc i) e is = member_some ms i e is

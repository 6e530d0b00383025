-- Of the places for inodes those from one on are free: the first that passes is among the others.
use Rattle.fs_machine.proofs.Vocabulary.{◌≡◌, ℕ, zero, suc, ◌+◌, ◌<◌, ◌≤◌, ◌==◌, List, [], ◌∷◌, length, set, Bool, true, false, cond, not, nat_lt, refl, sym, ◌∙◌, ap, subst, arith, Option, Some, None, slice_get, nat_tests, position, position_or_len, same_Some, none-some, IfSome, Entry, TablesState, place_of, references_of, is_for, is_unused}
use Rattle.std.specs.Prelude.{take, ◌^◌}
use Rattle.fs_machine.specs.Tables.{AreFreeFrom, references_at, references_in}
use Rattle.fs_machine.proofs.Places.{found}
use Rattle.std.proofs.lemmas.List.{take_all}

-- the first among the others is the first of all
first_used : (p : Entry → Bool) (es : List Entry) (n : ℕ) → n ≤ length es → position_or_len p (take n es) < n → position_or_len p es ≡ position_or_len p (take n es)
first_used p es zero le lt = absurd (omega (arith, lt))
first_used p [] (suc n) le lt = absurd (omega (arith, le))
first_used p (e ∷ es) (suc n) le lt = by_test (p e) lt (first_used p es n (omega (arith, le)))
  where
    by_test : (t : Bool) → cond (not t) (1 + position_or_len p (take n es)) 0 < suc n → (position_or_len p (take n es) < n → position_or_len p es ≡ position_or_len p (take n es))
        → cond (not t) (1 + position_or_len p es) 0 ≡ cond (not t) (1 + position_or_len p (take n es)) 0
    by_test true lt more = refl
    by_test false lt more = let same = more (omega (arith, lt)) in omega (arith, same)

-- if a free one doesn't pass, and none of the others does
none_free : (p : Entry → Bool) (es : List Entry) → ((e : Entry) → e.references ≡ 0 → p e ≡ false) → AreFreeFrom 0 es → position_or_len p es ≡ length es
none_free p [] fails are = refl
none_free p (e ∷ es) fails are =
    let all = none_free p es fails are.1 in
    ap (λ (t : Bool). cond (not t) (1 + position_or_len p es) 0) (fails e are.0) ∙ omega (arith, all)

none_used : (p : Entry → Bool) (es : List Entry) (n : ℕ) → ((e : Entry) → e.references ≡ 0 → p e ≡ false) → AreFreeFrom n es → n ≤ length es → n ≤ position_or_len p (take n es) → position_or_len p es ≡ length es
none_used p [] zero fails are le ge = refl
none_used p (e ∷ es) zero fails are le ge = none_free p (e ∷ es) fails are
none_used p [] (suc n) fails are le ge = refl
none_used p (e ∷ es) (suc n) fails are le ge = by_test (p e) ge (none_used p es n fails are (omega (arith, le)))
  where
    by_test : (t : Bool) → suc n ≤ cond (not t) (1 + position_or_len p (take n es)) 0 → (n ≤ position_or_len p (take n es) → position_or_len p es ≡ length es)
        → cond (not t) (1 + position_or_len p es) 0 ≡ suc (length es)
    by_test true ge more = absurd (omega (arith, ge))
    by_test false ge more = let all = more (omega (arith, ge)) in omega (arith, all)

-- the first free one, if all others are used
past_used : (es : List Entry) (n : ℕ) → AreFreeFrom n es → n < length es → n ≤ position_or_len is_unused (take n es) → position_or_len is_unused es ≡ n
past_used [] n are lt ge = absurd (omega (arith, lt))
past_used (e ∷ es) zero are lt ge = ap (λ (r : ℕ). cond (not (r == 0)) (1 + position_or_len is_unused es) 0) are.0
past_used (e ∷ es) (suc n) are lt ge = by_test (is_unused e) ge (past_used es n are (omega (arith, lt)))
  where
    by_test : (t : Bool) → suc n ≤ cond (not t) (1 + position_or_len is_unused (take n es)) 0 → (n ≤ position_or_len is_unused (take n es) → position_or_len is_unused es ≡ n)
        → cond (not t) (1 + position_or_len is_unused es) 0 ≡ suc n
    by_test true ge more = absurd (omega (arith, ge))
    by_test false ge more = let all = more (omega (arith, ge)) in omega (arith, all)

length_take : (es : List Entry) (n : ℕ) → n ≤ length es → length (take n es) ≡ n
length_take es zero le = refl
length_take [] (suc n) le = absurd (omega (arith, le))
length_take (e ∷ es) (suc n) le = ap suc (length_take es n (omega (arith, le)))

is_some_at : (i n j m : ℕ) → i < n → j ≡ i → n ≤ m → cond (nat_lt i n) (Some i) None ≡ cond (nat_lt j m) (Some j) None
is_some_at i n j m lt same le = grind (arith, nat_tests)

is_none_at : (i n j m : ℕ) → n ≤ i → j ≡ m → cond (nat_lt i n) (Some i) None ≡ cond (nat_lt j m) (Some j) None
is_none_at i n j m ge same = grind (arith, nat_tests)

below : (i n : ℕ) → nat_lt i n ≡ true → i < n
below i n e = grind (arith, nat_tests)

past : (i n : ℕ) → nat_lt i n ≡ false → n ≤ i
past i n e = grind (arith, nat_tests)

-- an inode that is sought
is_no_free : (k : ℕ) (e : Entry) → e.references ≡ 0 → is_for k e ≡ false
is_no_free k e none = tests k e.number e.references none
  where
    tests : (k n r : ℕ) → r ≡ 0 → is_for k (record { number = n; references = r }) ≡ false
    tests k n r none = grind (arith, nat_tests)

pub sought_used : (k : ℕ) (es : List Entry) (n : ℕ) → AreFreeFrom n es → n ≤ length es → position (is_for k) (take n es) ≡ position (is_for k) es
sought_used k es n are le = ap (λ (m : ℕ). cond (nat_lt i m) (Some i) None) (length_take es n le) ∙ by_test (nat_lt i n) refl
  where
    i : ℕ
    i = position_or_len (is_for k) (take n es)

    by_test : (t : Bool) → nat_lt i n ≡ t → cond (nat_lt i n) (Some i) None ≡ position (is_for k) es
    by_test true is = let lt = below i n is in is_some_at i n (position_or_len (is_for k) es) (length es) lt (first_used (is_for k) es n le lt) le
    by_test false is = let ge = past i n is in is_none_at i n (position_or_len (is_for k) es) (length es) ge (none_used (is_for k) es n (is_no_free k) are le ge)

found_at : (i n k : ℕ) → cond (nat_lt i n) (Some i) None ≡ Some k → (i < n) × (i ≡ k)
found_at i n k e = grind (arith, nat_tests)

found_none : (i n : ℕ) → cond (nat_lt i n) (Some i) None ≡ None → n ≤ i
found_none i n e = grind (arith, nat_tests)

some_at : (j m k : ℕ) → j ≡ k → k < m → Some k ≡ cond (nat_lt j m) (Some j) None
some_at j m k is lt = grind (arith, nat_tests)

-- the first free one: among the others, or right after them
pub free_used : (es : List Entry) (n k : ℕ) → n ≤ length es → position is_unused (take n es) ≡ Some k → Some k ≡ position is_unused es
free_used es n k le e =
    let at = found_at (position_or_len is_unused (take n es)) (length (take n es)) k e in
    let long = length_take es n le in
    let same = first_used is_unused es n le (omega (arith, at.0, long)) in
    some_at (position_or_len is_unused es) (length es) k (same ∙ at.1) (omega (arith, at.0, at.1, long, le))

pub free_past : (es : List Entry) (n : ℕ) → AreFreeFrom n es → n < length es → position is_unused (take n es) ≡ None → Some n ≡ position is_unused es
free_past es n are lt e =
    let ge = found_none (position_or_len is_unused (take n es)) (length (take n es)) e in
    let long = length_take es n (omega (arith, lt)) in
    some_at (position_or_len is_unused es) (length es) n (past_used es n are lt (omega (arith, ge, long))) lt

pub free_none : (es : List Entry) (n : ℕ) → length es ≤ n → position is_unused (take n es) ≡ None → None ≡ position is_unused es
free_none es n le e = sym e ∙ ap (position is_unused) (take_all n es le)

-- one reference more to an inode that is referred to
pub may_count : (n k : ℕ) (t : TablesState) → place_of n t.entries ≡ Some k → references_of n t + 1 < 2 ^ 32 → IfSome (slice_get t.entries k) (λ e. (0 < e.references) × (e.references + 1 < 2 ^ 32))
may_count n k t at room =
    let f = found n t.entries k at in
    let counted : references_of n t ≡ f.entry.references = ap (references_in t.entries) at ∙ ap references_at f.there in
    subst (λ (o : Option Entry). IfSome o (λ e. (0 < e.references) × (e.references + 1 < 2 ^ 32))) (sym f.there) (f.referenced, subst (λ (r : ℕ). r + 1 < 2 ^ 32) counted room)

-- what stays so
pub free_more : (es : List Entry) (n m : ℕ) → n ≤ m → AreFreeFrom n es → AreFreeFrom m es
free_more [] n m le are = tt
free_more (e ∷ es) zero zero le are = are
free_more (e ∷ es) (suc n) zero le are = absurd (omega (arith, le))
free_more (e ∷ es) zero (suc m) le are = free_more es zero m (omega arith) are.1
free_more (e ∷ es) (suc n) (suc m) le are = free_more es n m (omega (arith, le)) are

pub free_set : (es : List Entry) (n k : ℕ) (y : Entry) → k < n → AreFreeFrom n es → AreFreeFrom n (set es k y)
free_set [] n k y lt are = tt
free_set (e ∷ es) zero k y lt are = absurd (omega (arith, lt))
free_set (e ∷ es) (suc n) zero y lt are = are
free_set (e ∷ es) (suc n) (suc k) y lt are = free_set es n k y (omega (arith, lt)) are

-- a place with a reference
pub used_below : (es : List Entry) (n k : ℕ) (e : Entry) → AreFreeFrom n es → slice_get es k ≡ Some e → 0 < e.references → k < n
used_below [] n k e are at some = absurd (none-some e at)
used_below (d ∷ es) zero zero e are at some = let none : e.references ≡ 0 = ap (λ (x : Entry). x.references) (sym (same_Some d e at)) ∙ are.0 in absurd (omega (arith, none, some))
used_below (d ∷ es) zero (suc k) e are at some = absurd (let lt = used_below es zero k e are.1 at some in omega (arith, lt))
used_below (d ∷ es) (suc n) zero e are at some = omega arith
used_below (d ∷ es) (suc n) (suc k) e are at some = let lt = used_below es n k e are at some in omega (arith, lt)

-- The seats in their places, and in the order of giving back.
use Rattle.buffer_cache.proofs.Vocabulary.{◌≡◌, ◌≢◌, ℕ, zero, suc, ◌+◌, ◌<◌, ◌≤◌, List, [], ◌∷◌, ◌++◌, length, get_or, set, map, Bool, true, false, cond, refl, sym, ◌∙◌, ap, subst, arith, Option, Some, None, IsSome, if◌then◌else◌, ◌==◌, inl, inr, slice_get, position, find, range_with_len, cases_lt, nat_tests, get_or-set_same, get_or-set_other, get_or_past, get_or_default, length-map, map-set_same, length-range_with_len, get_or-range_with_len, slice_get_read, slice_get_within, slice_get-map, get_or_from_slice_get, same_Some, change_first, change_to_end, count_of, SeatState, unused, unused_from, numbered, in_order, numbers, is_same, IsOrdered}
use Rattle.std.specs.Prelude.{option_map}
use Rattle.buffer_cache.proofs.Firsts.{pick, position_some, place_first, place_change, no_place, first_passes, first_counted, none_counted, none_first, count_push}
use Rattle.buffer_cache.proofs.Once.{counted_at}
use Rattle.buffer_cache.proofs.Seated.{same_number}

pub is_equal : (m n : ℕ) → (m == n) ≡ true → m ≡ n
is_equal m n e = grind (arith, nat_tests)

is_other : (m n : ℕ) → (m == n) ≡ false → m ≢ n
is_other m n e = grind (arith, nat_tests)

isnt_same : (m n : ℕ) → m ≢ n → (m == n) ≡ false
isnt_same m n e = grind (arith, nat_tests)

-- counts over a list that is read through a function
count_map : {X Y : Type 0} (p : Y → Bool) (g : X → Y) (xs : List X) → count_of p (map g xs) ≡ count_of (λ (x : X). p (g x)) xs
count_map p g [] = refl
count_map p g (x ∷ xs) = ap (λ (k : ℕ). cond (p (g x)) 1 0 + k) (count_map p g xs)

pub find_map : {X Y : Type 0} (p : Y → Bool) (g : X → Y) (xs : List X) → find p (map g xs) ≡ option_map g (find (λ (x : X). p (g x)) xs)
find_map p g [] = refl
find_map {X} {Y} p g (x ∷ xs) = by_test (p (g x)) (find_map p g xs)
  where
    by_test : (t : Bool) → find p (map g xs) ≡ option_map g (find (λ (x : X). p (g x)) xs) → cond t (Some (g x)) (find p (map g xs)) ≡ option_map g (cond t (Some x) (find (λ (x : X). p (g x)) xs))
    by_test true more = refl
    by_test false more = more

-- if a number is counted and its element passes, that element is counted
count_there : {X : Type 0} (p : X → Bool) (g : ℕ → X) (n : ℕ) (ns : List ℕ) → 1 ≤ count_of (is_same n) ns → p (g n) ≡ true → 1 ≤ count_of p (map g ns)
count_there p g n [] some is = absurd (omega (arith, some))
count_there {X} p g n (m ∷ ms) some is =
    pick (m == n) (λ t. (m == n) ≡ t → 1 ≤ cond t 1 0 + count_of (is_same n) ms → 1 ≤ cond (p (g m)) 1 0 + count_of p (map g ms))
    (λ _ e _. let passes : p (g m) ≡ true = ap (λ (k : ℕ). p (g k)) (is_equal m n e) ∙ is in
    let one : ℕ = 1 in let a : cond (p (g m)) one 0 ≡ one = ap (λ (t : Bool). cond t one 0) passes in omega (arith, a))
    (λ _ _ le. let more = count_there p g n ms (omega (arith, le)) is in omega (arith, more))
    refl some

found_there : {X : Type 0} (p : X → Bool) (g : ℕ → X) (n : ℕ) (ns : List ℕ) → 1 ≤ count_of (is_same n) ns → count_of p (map g ns) ≤ 1 → p (g n) ≡ true → find p (map g ns) ≡ Some (g n)
found_there p g n [] some once is = absurd (omega (arith, some))
found_there {X} p g n (m ∷ ms) some once is =
    pick (m == n) (λ t. (m == n) ≡ t → 1 ≤ cond t 1 0 + count_of (is_same n) ms → cond (p (g m)) (Some (g m)) (find p (map g ms)) ≡ Some (g n))
    (λ _ e _. let at = is_equal m n e in let passes : p (g m) ≡ true = ap (λ (k : ℕ). p (g k)) at ∙ is in
    ap (λ (t : Bool). cond t (Some (g m)) (find p (map g ms))) passes ∙ ap (λ (k : ℕ). Some (g k)) at)
    (λ _ _ le.
    let rest : 1 ≤ count_of (is_same n) ms = omega (arith, le) in
    let more = count_there p g n ms rest is in
    pick (p (g m)) (λ t. cond t 1 0 + count_of p (map g ms) ≤ 1 → cond t (Some (g m)) (find p (map g ms)) ≡ Some (g n))
    (λ _ two. absurd (omega (arith, two, more)))
    (λ _ one. found_there p g n ms rest (omega (arith, one)) is)
    once)
    refl some

-- if a number isn't counted, a change of its element isn't read
map_others : {X : Type 0} (g h : ℕ → X) (n : ℕ) → ((k : ℕ) → k ≢ n → h k ≡ g k) → (ns : List ℕ) → count_of (is_same n) ns ≡ 0 → map h ns ≡ map g ns
map_others g h n others [] none = refl
map_others {X} g h n others (m ∷ ms) none =
    pick (m == n) (λ t. (m == n) ≡ t → cond t 1 0 + count_of (is_same n) ms ≡ 0 → h m ∷ map h ms ≡ g m ∷ map g ms)
    (λ _ _ z. absurd (omega (arith, z)))
    (λ _ e z. ap (λ (x : X). x ∷ map h ms) (others m (is_other m n e)) ∙ ap (λ (l : List X). g m ∷ l) (map_others g h n others ms (omega (arith, z))))
    refl none

-- what is read at one number only is changed
pub record Changes {X : Type 0} (f : X → X) (g h : ℕ → X) (n : ℕ) : Type 0 where
  pub here : h n ≡ f (g n)
  pub others : (k : ℕ) → k ≢ n → h k ≡ g k
  pub apart : (k : ℕ) → g k ≡ g n → k ≡ n

last_none : (n m k : ℕ) → m ≡ n → cond (m == n) 1 0 + k ≤ 1 → k ≡ 0
last_none n m k is le =
    let e : (m == n) ≡ true = ap (λ (j : ℕ). j == n) is ∙ same_number n in
    let few : cond true 1 0 + k ≤ 1 = subst (λ (t : Bool). cond t 1 0 + k ≤ 1) e le in
    omega (arith, few)

first_changes : {X : Type 0} (p : X → Bool) (f : X → X) (g h : ℕ → X) (n : ℕ) → Changes f g h n → (ns : List ℕ) → count_of (is_same n) ns ≤ 1 → find p (map g ns) ≡ Some (g n) → map h ns ≡ change_first p f (map g ns)
first_changes p f g h n is [] once e = absurd (cc e)
first_changes {X} p f g h n is (m ∷ ms) once e =
    pick (p (g m)) (λ t. p (g m) ≡ t → cond t (Some (g m)) (find p (map g ms)) ≡ Some (g n) → h m ∷ map h ms ≡ (if t then f (g m) ∷ map g ms else g m ∷ change_first p f (map g ms)))
    (λ _ _ first.
    let at = is.apart m (same_Some (g m) (g n) first) in
    ap (λ (x : X). x ∷ map h ms) (ap h at ∙ is.here ∙ ap (λ (k : ℕ). f (g k)) (sym at))
    ∙ ap (λ (l : List X). f (g m) ∷ l) (map_others g h n is.others ms (last_none n m _ at once)))
    (λ _ isnt more.
    let passes = first_passes p (map g ms) (g n) more in
    let other : m ≢ n = λ at. (let clash : false ≡ true = sym isnt ∙ ap (λ (k : ℕ). p (g k)) at ∙ passes in cc clash) in
    ap (λ (x : X). x ∷ map h ms) (is.others m other)
    ∙ ap (λ (l : List X). g m ∷ l) (first_changes p f g h n is ms (omega (arith, once)) more))
    refl e

map_push : {X : Type 0} (h : ℕ → X) (ns : List ℕ) (n : ℕ) → map h (ns ++ n ∷ []) ≡ map h ns ++ h n ∷ []
map_push h [] n = refl
map_push {X} h (m ∷ ms) n = ap (λ (l : List X). h m ∷ l) (map_push h ms n)

moved_changes : {X : Type 0} (p : X → Bool) (f : X → X) (g h : ℕ → X) (n : ℕ) → Changes f g h n → (ns : List ℕ) → count_of (is_same n) ns ≤ 1 → find p (map g ns) ≡ Some (g n)
    → map h (change_to_end (is_same n) (λ k. k) ns) ≡ change_to_end p f (map g ns)
moved_changes p f g h n is [] once e = absurd (cc e)
moved_changes {X} p f g h n is (m ∷ ms) once e =
    pick (p (g m)) (λ t. p (g m) ≡ t → cond t (Some (g m)) (find p (map g ms)) ≡ Some (g n)
    → map h (if m == n then ms ++ m ∷ [] else m ∷ change_to_end (is_same n) (λ k. k) ms) ≡ (if t then map g ms ++ f (g m) ∷ [] else g m ∷ change_to_end p f (map g ms)))
    (λ _ _ first.
    let at = is.apart m (same_Some (g m) (g n) first) in
    ap (λ (t : Bool). map h (if t then ms ++ m ∷ [] else m ∷ change_to_end (is_same n) (λ k. k) ms)) (ap (λ (j : ℕ). j == n) at ∙ same_number n)
    ∙ map_push h ms m
    ∙ ap (λ (l : List X). l ++ h m ∷ []) (map_others g h n is.others ms (last_none n m _ at once))
    ∙ ap (λ (x : X). map g ms ++ x ∷ []) (ap h at ∙ is.here ∙ ap (λ (k : ℕ). f (g k)) (sym at)))
    (λ _ isnt more.
    let passes = first_passes p (map g ms) (g n) more in
    let other : m ≢ n = λ at. (let clash : false ≡ true = sym isnt ∙ ap (λ (k : ℕ). p (g k)) at ∙ passes in cc clash) in
    ap (λ (t : Bool). map h (if t then ms ++ m ∷ [] else m ∷ change_to_end (is_same n) (λ k. k) ms)) (isnt_same m n other)
    ∙ ap (λ (x : X). x ∷ map h (change_to_end (is_same n) (λ k. k) ms)) (is.others m other)
    ∙ ap (λ (l : List X). g m ∷ l) (moved_changes p f g h n is ms (omega (arith, once)) more))
    refl e

-- a move keeps counts
count_moved : (q : ℕ → Bool) (n : ℕ) (ns : List ℕ) → count_of q (change_to_end (is_same n) (λ k. k) ns) ≡ count_of q ns
count_moved q n [] = refl
count_moved q n (m ∷ ms) =
    let a = count_push q ms m in
    let more = count_moved q n ms in
    pick (m == n) (λ t. count_of q (if t then ms ++ m ∷ [] else m ∷ change_to_end (is_same n) (λ k. k) ms) ≡ cond (q m) 1 0 + count_of q ms) (λ _. omega (arith, a)) (λ _. omega (arith, more))

-- the numbers from one on
pub range_at : (a n k : ℕ) → k < n → slice_get (range_with_len a n) k ≡ Some (a + k)
range_at a n k lt = slice_get_read (range_with_len a n) n k (a + k) (sym (length-range_with_len a n)) lt (sym (get_or-range_with_len a n k (a + k) lt))

range_before : (k a n : ℕ) → k < a → count_of (is_same k) (range_with_len a n) ≡ 0
range_before k a zero lt = refl
range_before k a (suc n) lt =
    let more = range_before k (a + 1) n (omega (arith, lt)) in
    let none : ℕ = 0 in
    let here : cond (a == k) 1 none ≡ none = ap (λ (t : Bool). cond t 1 none) (isnt_same a k (λ e. omega (arith, e, lt))) in
    omega (arith, more, here)

pub range_apart : (k a n : ℕ) → count_of (is_same k) (range_with_len a n) ≤ 1
range_apart k a zero = omega arith
range_apart k a (suc n) =
    pick (a == k) (λ t. (a == k) ≡ t → cond t 1 0 + count_of (is_same k) (range_with_len (a + 1) n) ≤ 1)
    (λ _ e. let at = is_equal a k e in let rest = range_before k (a + 1) n (omega (arith, at)) in omega (arith, rest))
    (λ _ _. let rest = range_apart k (a + 1) n in omega (arith, rest))
    refl

pub range_within : (k a n : ℕ) → 1 ≤ count_of (is_same k) (range_with_len a n) → k < a + n
range_within k a zero some = absurd (omega (arith, some))
range_within k a (suc n) some =
    pick (a == k) (λ t. (a == k) ≡ t → 1 ≤ cond t 1 0 + count_of (is_same k) (range_with_len (a + 1) n) → k < a + suc n)
    (λ _ e _. let at = is_equal a k e in omega (arith, at))
    (λ _ _ le. let rest = range_within k (a + 1) n (omega (arith, le)) in omega (arith, rest))
    refl some

range_map : {X : Type 0} (xs : List X) (a : ℕ) (g : ℕ → X) → ((k : ℕ) (x : X) → slice_get xs k ≡ Some x → g (a + k) ≡ x) → map g (range_with_len a (length xs)) ≡ xs
range_map [] a g is = refl
range_map {X} (x ∷ xs) a g is =
    let first : a ≡ a + 0 = omega arith in
    let more = range_map xs (a + 1) g (λ k y at. (let next : a + 1 + k ≡ a + suc k = omega arith in ap g next ∙ is (suc k) y at)) in
    ap (λ (y : X). y ∷ map g (range_with_len (a + 1) (length xs))) (ap g first ∙ is 0 x refl) ∙ ap (λ (l : List X). x ∷ l) more

-- each seat is in its place
length_numbers : length numbers ≡ 46
unfolding numbers
length_numbers = length-range_with_len 0 46

pub seats_count : (seats : List SeatState) (order : List ℕ) → IsOrdered seats order → length seats ≡ 46
seats_count seats order ordered = sym (length-map seats (λ (s : SeatState). s.number)) ∙ ap (λ (l : List ℕ). length l) ordered.places ∙ length_numbers

numbers_at : (n : ℕ) → n < 46 → slice_get numbers n ≡ Some n
unfolding numbers
numbers_at n lt = range_at 0 46 n lt ∙ ap (λ (k : ℕ). Some k) (let e : 0 + n ≡ n = omega arith in e)

pub number_at : (seats : List SeatState) (order : List ℕ) → IsOrdered seats order → (n : ℕ) (s : SeatState) → slice_get seats n ≡ Some s → s.number ≡ n
number_at seats order ordered n s at =
    let lt = slice_get_within seats n s at in
    let count = seats_count seats order ordered in
    same_Some s.number n
    (sym (slice_get-map (λ (x : SeatState). x.number) seats n ∙ ap (λ (o : Option SeatState). option_map (λ (x : SeatState). x.number) o) at)
    ∙ ap (λ (l : List ℕ). slice_get l n) ordered.places ∙ numbers_at n (omega (arith, lt, count)))

pub numbered_at : (seats : List SeatState) (n : ℕ) → n < length seats → slice_get seats n ≡ Some (numbered seats n)
numbered_at seats n lt = slice_get_read seats (length seats) n (numbered seats n) refl lt (get_or_default seats n (unused n) (numbered seats n) lt)

-- a seat that was read
pub numbered_read : (seats : List SeatState) (n : ℕ) (s : SeatState) → n < length seats → s ≡ get_or seats n s → s ≡ numbered seats n
numbered_read seats n s lt is = is ∙ get_or_default seats n s (unused n) lt

pub number_is : (seats : List SeatState) (order : List ℕ) → IsOrdered seats order → (n : ℕ) → (numbered seats n).number ≡ n
number_is seats order ordered n = elim (cases_lt n (length seats)) [
  | inl lt ↦ number_at seats order ordered n (numbered seats n) (numbered_at seats n lt)
  | inr ge ↦ ap (λ (s : SeatState). s.number) (get_or_past seats n (unused n) ge)
]

-- each number is in the order once
pub order_within : (seats : List SeatState) (order : List ℕ) (n : ℕ) → IsOrdered seats order → 1 ≤ count_of (is_same n) order → n < length seats
unfolding numbers
order_within seats order n ordered some =
    let all = ordered.all (is_same n) in
    let lt = range_within n 0 46 (omega (arith, all, some)) in
    let count = seats_count seats order ordered in
    omega (arith, lt, count)

pub once_in : (seats : List SeatState) (order : List ℕ) (n : ℕ) → IsOrdered seats order → n < length seats → count_of (is_same n) order ≡ 1
unfolding numbers
once_in seats order n ordered lt =
    let all = ordered.all (is_same n) in
    let most = range_apart n 0 46 in
    let count = seats_count seats order ordered in
    let some = counted_at (is_same n) numbers n n (numbers_at n (omega (arith, lt, count))) (same_number n) in
    omega (arith, all, most, some)

pub order_at : (seats : List SeatState) (order : List ℕ) (k : ℕ) → IsOrdered seats order → k < length order → get_or order k 0 < length seats
order_at seats order k ordered lt =
    let n = get_or order k 0 in
    order_within seats order n ordered (counted_at (is_same n) order k n (slice_get_read order (length order) k n refl lt (get_or_default order k 0 n lt)) (same_number n))

-- the order has what the places have
all_numbered : (seats : List SeatState) (order : List ℕ) → IsOrdered seats order → map (numbered seats) numbers ≡ seats
unfolding numbers
all_numbered seats order ordered =
    ap (λ (n : ℕ). map (numbered seats) (range_with_len 0 n)) (sym (seats_count seats order ordered))
    ∙ range_map seats 0 (numbered seats) (λ k x at. let e : 0 + k ≡ k = omega arith in ap (numbered seats) e ∙ get_or_from_slice_get seats k x (unused k) at)

pub counted : (seats : List SeatState) (order : List ℕ) (p : SeatState → Bool) → IsOrdered seats order → count_of p (in_order seats order) ≡ count_of p seats
counted seats order p ordered =
    count_map p (numbered seats) order ∙ ordered.all (λ (n : ℕ). p (numbered seats n)) ∙ sym (count_map p (numbered seats) numbers)
    ∙ ap (λ (l : List SeatState). count_of p l) (all_numbered seats order ordered)

pub found_in : (seats : List SeatState) (order : List ℕ) (p : SeatState → Bool) (n : ℕ) → IsOrdered seats order → count_of p seats ≤ 1 → n < length seats → p (numbered seats n) ≡ true → find p (in_order seats order) ≡ Some (numbered seats n)
found_in seats order p n ordered once lt is =
    let there = once_in seats order n ordered lt in
    let few = counted seats order p ordered in
    found_there p (numbered seats) n order (omega (arith, there)) (omega (arith, few, once)) is

pub none_in : (seats : List SeatState) (order : List ℕ) (p : SeatState → Bool) → IsOrdered seats order → find p seats ≡ None → find p (in_order seats order) ≡ None
none_in seats order p ordered none = none_first p (in_order seats order) (counted seats order p ordered ∙ none_counted p seats none)

pub placed_first : (seats : List SeatState) (p : SeatState → Bool) (n : ℕ) → position p seats ≡ Some n → find p seats ≡ Some (numbered seats n)
placed_first seats p n at = place_first p seats n (unused n) at

pub same_first : (seats : List SeatState) (order : List ℕ) (p : SeatState → Bool) → IsOrdered seats order → count_of p seats ≤ 1 → find p (in_order seats order) ≡ find p seats
same_first seats order p ordered once = by_place (position p seats) refl
  where
    by_place : (o : Option ℕ) → position p seats ≡ o → find p (in_order seats order) ≡ find p seats
    by_place None at = let none = no_place p seats at in none_in seats order p ordered none ∙ sym none
    by_place (Some n) at =
        let here = position_some p seats n at in
        let first = placed_first seats p n at in
        found_in seats order p n ordered once here.1 (first_passes p seats (numbered seats n) first) ∙ sym first

-- the same, for the list that is seen
pub once_of : (seats : List SeatState) (order : List ℕ) (seen : List SeatState) (p : SeatState → Bool) → IsOrdered seats order → in_order seats order ≡ seen → count_of p seen ≤ 1 → count_of p seats ≤ 1
once_of seats order seen p ordered is once =
    let all = sym (counted seats order p ordered) ∙ ap (λ (l : List SeatState). count_of p l) is in
    omega (arith, all, once)

pub first_of : (seats : List SeatState) (order : List ℕ) (seen : List SeatState) (p : SeatState → Bool) → IsOrdered seats order → in_order seats order ≡ seen → count_of p seen ≤ 1 → find p seen ≡ find p seats
first_of seats order seen p ordered is once = ap (λ (l : List SeatState). find p l) (sym is) ∙ same_first seats order p ordered (once_of seats order seen p ordered is once)

-- the first free one, by its number
pub has_free : (seats : List SeatState) (order : List ℕ) (p : SeatState → Bool) (o : Option ℕ) → o ≡ find (λ (n : ℕ). p (numbered seats n)) order → IsSome (find p (in_order seats order)) → IsSome o
has_free seats order p None e some =
    let none : find p (in_order seats order) ≡ None = find_map p (numbered seats) order ∙ ap (λ (o : Option ℕ). option_map (numbered seats) o) (sym e) in
    let clash : IsSome {T = SeatState} None = subst (λ (o : Option SeatState). IsSome o) none some in
    absurd (cc clash)
has_free seats order p (Some i) e some = refl

pub record IsFirst (seats : List SeatState) (order : List ℕ) (p : SeatState → Bool) (i : ℕ) : Type 0 where
  pub within : i < length seats
  pub passes : p (numbered seats i) ≡ true
  pub first : find p (in_order seats order) ≡ Some (numbered seats i)

pub first_free_in : (seats : List SeatState) (order : List ℕ) (p : SeatState → Bool) (o : Option ℕ) (i : ℕ) → IsOrdered seats order → o ≡ find (λ (n : ℕ). p (numbered seats n)) order → o ≡ Some i → IsFirst seats order p i
first_free_in seats order p o i ordered e at =
    let q : ℕ → Bool = λ n. p (numbered seats n) in
    let found : find q order ≡ Some i = sym e ∙ at in
    record {
      within = order_within seats order i ordered (first_counted (is_same i) q order i found (same_number i));
      passes = first_passes q order i found;
      first = find_map p (numbered seats) order ∙ ap (λ (o : Option ℕ). option_map (numbered seats) o) found;
    }

-- a seat is changed in its place
seat_changes : (seats : List SeatState) (order : List ℕ) (f : SeatState → SeatState) (n : ℕ) (y : SeatState) → IsOrdered seats order → n < length seats → y ≡ f (numbered seats n) → Changes f (numbered seats) (numbered (set seats n y)) n
seat_changes seats order f n y ordered lt is = record {
  here = get_or-set_same seats n y (unused n) lt ∙ is;
  others = λ k ne. get_or-set_other seats n k y (unused k) ne;
  apart = λ k e. sym (number_is seats order ordered k) ∙ ap (λ (s : SeatState). s.number) e ∙ number_is seats order ordered n;
}

pub changed_in : (seats : List SeatState) (order : List ℕ) (p : SeatState → Bool) (f : SeatState → SeatState) (n : ℕ) (y : SeatState) → IsOrdered seats order → n < length seats
    → find p (in_order seats order) ≡ Some (numbered seats n) → y ≡ f (numbered seats n) → in_order (set seats n y) order ≡ change_first p f (in_order seats order)
changed_in seats order p f n y ordered lt first is =
    let once = once_in seats order n ordered lt in
    first_changes p f (numbered seats) (numbered (set seats n y)) n (seat_changes seats order f n y ordered lt is) order (omega (arith, once)) first

pub moved_in : (seats : List SeatState) (order : List ℕ) (p : SeatState → Bool) (f : SeatState → SeatState) (n : ℕ) (y : SeatState) → IsOrdered seats order → n < length seats
    → find p (in_order seats order) ≡ Some (numbered seats n) → y ≡ f (numbered seats n) → in_order (set seats n y) (change_to_end (is_same n) (λ k. k) order) ≡ change_to_end p f (in_order seats order)
moved_in seats order p f n y ordered lt first is =
    let once = once_in seats order n ordered lt in
    moved_changes p f (numbered seats) (numbered (set seats n y)) n (seat_changes seats order f n y ordered lt is) order (omega (arith, once)) first

-- the first that passes, changed
pub first_in : (seats : List SeatState) (order : List ℕ) (p : SeatState → Bool) (f : SeatState → SeatState) → IsOrdered seats order → count_of p seats ≤ 1 → IsSome (find p seats)
    → in_order (change_first p f seats) order ≡ change_first p f (in_order seats order)
first_in seats order p f ordered once some = by_place (position p seats) refl
  where
    by_place : (o : Option ℕ) → position p seats ≡ o → in_order (change_first p f seats) order ≡ change_first p f (in_order seats order)
    by_place None at = let none : IsSome {T = SeatState} None = subst (λ (o : Option SeatState). IsSome o) (no_place p seats at) some in absurd (cc none)
    by_place (Some n) at =
        let here = position_some p seats n at in
        ap (λ (l : List SeatState). in_order l order) (sym (place_change p f seats n (unused n) (f (numbered seats n)) at refl))
        ∙ changed_in seats order p f n (f (numbered seats n)) ordered here.1 (same_first seats order p ordered once ∙ placed_first seats p n at) refl

pub ordered_set : (seats : List SeatState) (order : List ℕ) (n : ℕ) (y : SeatState) → y.number ≡ (numbered seats n).number → IsOrdered seats order → IsOrdered (set seats n y) order
ordered_set seats order n y keeps ordered = record {
  places = map-set_same (λ (s : SeatState). s.number) seats n y (unused n) keeps ∙ ordered.places;
  all = ordered.all;
}

map_first : (p : SeatState → Bool) (f : SeatState → SeatState) (seats : List SeatState) → ((s : SeatState) → (f s).number ≡ s.number) → map (λ (s : SeatState). s.number) (change_first p f seats) ≡ map (λ (s : SeatState). s.number) seats
map_first p f [] keeps = refl
map_first p f (s ∷ ss) keeps =
    pick (p s) (λ t. map (λ (s : SeatState). s.number) (if t then f s ∷ ss else s ∷ change_first p f ss) ≡ s.number ∷ map (λ (s : SeatState). s.number) ss)
    (λ _. ap (λ (n : ℕ). n ∷ map (λ (s : SeatState). s.number) ss) (keeps s))
    (λ _. ap (λ (l : List ℕ). s.number ∷ l) (map_first p f ss keeps))

pub ordered_first : (seats : List SeatState) (order : List ℕ) (p : SeatState → Bool) (f : SeatState → SeatState) → ((s : SeatState) → (f s).number ≡ s.number) → IsOrdered seats order → IsOrdered (change_first p f seats) order
ordered_first seats order p f keeps ordered = record { places = map_first p f seats keeps ∙ ordered.places; all = ordered.all }

pub ordered_moved : (seats : List SeatState) (order : List ℕ) (n : ℕ) → IsOrdered seats order → IsOrdered seats (change_to_end (is_same n) (λ k. k) order)
ordered_moved seats order n ordered = record { places = ordered.places; all = λ q. count_moved q n order ∙ ordered.all q }

-- buffers that were never used
places_unused : (n count : ℕ) → map (λ (s : SeatState). s.number) (unused_from n count) ≡ range_with_len n count
unfolding unused_from
places_unused n zero = refl
places_unused n (suc count) = ap (λ (l : List ℕ). n ∷ l) (places_unused (n + 1) count)

pub ordered_new : IsOrdered (unused_from 0 46) numbers
unfolding numbers
ordered_new = record { places = places_unused 0 46; all = λ _. refl }

pub in_order_new : in_order (unused_from 0 46) numbers ≡ unused_from 0 46
in_order_new = all_numbered (unused_from 0 46) numbers ordered_new

-- Which of a row of seats are in the list.
use Rattle.hart_runner.proofs.Vocabulary.{ℕ, ◌≡◌, ◌≢◌, ◌<◌, ◌≤◌, ◌+◌, ◌∙◌, [], List, All, map, take, length, slice_get, slice_index_or, sym, ap, subst, refl, arith, length-map, take_all, get_or-map, All-more, Contains-get_or, StoredRun, replies_of, SeatV, kept_view, kept_of, IsListed, OneDiffers, Differs, Kept}

at : (xs : List Kept) (i : ℕ) (x : Kept) → i < length xs → x ≡ slice_index_or xs i x → slice_index_or (map kept_view xs) i (kept_view x) ≡ kept_view x
at xs i x lt e = get_or-map kept_view xs i x (kept_view x) lt ∙ ap kept_view (sym e)

-- one more of them is in the list
pub grown : (c : StoredRun) (xs : List Kept) (i : ℕ) (x : Kept) → i < length xs → x ≡ slice_index_or xs i x → IsListed c (kept_view x) → All (IsListed c) (take i (map kept_view xs)) → All (IsListed c) (take (i + 1) (map kept_view xs))
grown c xs i x lt e here before =
    All-more (IsListed c) (map kept_view xs) i (kept_view x) (omega (arith, length-map xs kept_view, lt)) before (subst (IsListed c) (sym (at xs i x lt e)) here)

-- this one is not
pub found : (c : StoredRun) (xs : List Kept) (i : ℕ) (x : Kept) (place : ℕ) → i < length xs → x ≡ slice_index_or xs i x → slice_get (kept_view x).replies place ≢ slice_get (replies_of x.hart c) place → OneDiffers x.hart place c (map kept_view xs)
found c xs i x place lt e other = (kept_view x, (i, omega (arith, length-map xs kept_view, lt), at xs i x lt e), refl, other)

-- all of them are
pub whole : (c : StoredRun) (xs : List Kept) (i : ℕ) → length xs ≤ i → All (IsListed c) (take i (map kept_view xs)) → All (IsListed c) (map kept_view xs)
whole c xs i all before = subst (All (IsListed c)) (take_all i (map kept_view xs) (omega (arith, length-map xs kept_view, all))) before

-- what holds of the rows holds of the seats
pub all_seats : (c : StoredRun) (seats : List SeatV) (xs : List Kept) → map kept_view xs ≡ map kept_of seats → All (IsListed c) (map kept_view xs) → All (λ s. s.replies ≡ replies_of s.hart c) seats
all_seats c seats xs same listed =
    let listed' : All (IsListed c) (map kept_of seats) = subst (All (IsListed c)) same listed in
    λ k d lt. subst (IsListed c) (get_or-map kept_of seats k d (kept_of d) lt) (listed' k (kept_of d) (omega (arith, length-map seats kept_of, lt)))

pub one_seat : (c : StoredRun) (seats : List SeatV) (xs : List Kept) (hart place : ℕ) → map kept_view xs ≡ map kept_of seats → OneDiffers hart place c (map kept_view xs) → Differs hart place c seats
one_seat c seats xs hart place same differs =
    let one : OneDiffers hart place c (map kept_of seats) = subst (OneDiffers hart place c) same differs in
    let d : SeatV = record { hart = hart; replies = []; count = 0 } in
    let lt : one.1.0 < length seats = omega (arith, length-map seats kept_of, one.1.1) in
    let s : SeatV = slice_index_or seats one.1.0 d in
    let is : one.0 ≡ kept_of s = sym one.1.2 ∙ get_or-map kept_of seats one.1.0 d one.0 lt in (
      s,
      Contains-get_or seats one.1.0 d lt,
      sym (ap (λ k. k.hart) is) ∙ one.2,
      λ e. one.3 (ap (λ k. slice_get k.replies place) is ∙ e),
    )

-- Buffers that are made.
use Rattle.buffer_cache.proofs.Vocabulary.{◌≡◌, ℕ, zero, suc, ◌+◌, ◌<◌, ◌≤◌, List, [], ◌∷◌, ◌++◌, length, ◌==◌, Bool, true, false, cond, refl, sym, ◌∙◌, ap, subst, arith, None, slice_get, nat_tests, row_of, BufferState, count_of, SeatState, unused, unused_from, has_number, SlotFits, AllSeated, IsSeated}
use Rattle.buffer_cache.proofs.Basics.{pick}

-- buffers that aren't valid
abbrev pub AllNew : List BufferState → Type 0
AllNew [] = Unit {0}
AllNew (v ∷ vs) = (v.content ≡ None) × AllNew vs

pub new_push : (vs : List BufferState) (v : BufferState) → AllNew vs → v.content ≡ None → AllNew (vs ++ v ∷ [])
new_push [] v all new = (new, tt)
new_push (w ∷ ws) v all new = (all.0, new_push ws v all.1 new)

row_fits : (n : ℕ) (vs : List BufferState) (k : ℕ) → AllNew vs → k < length vs → SlotFits (unused (n + k)) (slice_get (row_of n vs) k)
row_fits n [] k all lt = absurd (omega arith)
row_fits n (v ∷ vs) zero all lt = (let e : n ≡ n + 0 = omega arith in e, refl, all.0)
row_fits n (v ∷ vs) (suc k) all lt =
    let e : n + 1 + k ≡ n + suc k = omega arith in
    subst (λ (m : ℕ). SlotFits (unused m) (slice_get (row_of (n + 1) vs) k)) e (row_fits (n + 1) vs k all.1 (omega (arith, lt)))

seated_from : (vs : List BufferState) (n count : ℕ) → AllNew vs → n + count ≤ length vs → AllSeated (row_of 0 vs) (unused_from n count)
unfolding unused_from
seated_from vs n zero all le = tt
seated_from vs n (suc count) all le = (
  let e : 0 + n ≡ n = omega arith in subst (λ (m : ℕ). SlotFits (unused m) (slice_get (row_of 0 vs) n)) e (row_fits 0 vs n all (omega (arith, le))),
  seated_from vs (n + 1) count all (omega (arith, le)),
)

not_before : (k n count : ℕ) → k < n → count_of (has_number k) (unused_from n count) ≡ 0
unfolding unused_from
not_before k n zero lt = refl
not_before k n (suc count) lt =
    let more = not_before k (n + 1) count (omega (arith, lt)) in
    let isnt : (n == k) ≡ false = other n k lt in
    let none : ℕ = 0 in
    let a : cond (n == k) 1 none ≡ none = ap (λ (t : Bool). cond t 1 none) isnt in
    omega (arith, more, a)
  where
    other : (n k : ℕ) → k < n → (n == k) ≡ false
    other n k lt = grind (arith, nat_tests)

apart_from : (k n count : ℕ) → count_of (has_number k) (unused_from n count) ≤ 1
unfolding unused_from
apart_from k n zero = omega arith
apart_from k n (suc count) =
    pick (n == k) (λ t. (n == k) ≡ t → cond t 1 0 + count_of (has_number k) (unused_from (n + 1) count) ≤ 1)
    (λ _ is. let rest = not_before k (n + 1) count (same n k is) in omega (arith, rest))
    (λ _ _. let rest = apart_from k (n + 1) count in omega (arith, rest))
    refl
  where
    same : (n k : ℕ) → (n == k) ≡ true → k < n + 1
    same n k e = grind (arith, nat_tests)

pub seated_new : (vs : List BufferState) (count : ℕ) → AllNew vs → count ≤ length vs → IsSeated (row_of 0 vs) (unused_from 0 count)
seated_new vs count all le = record {
  all = seated_from vs 0 count all (omega (arith, le));
  apart = λ k. apart_from k 0 count;
}

push_from : (n count : ℕ) → unused_from n count ++ unused (n + count) ∷ [] ≡ unused_from n (suc count)
unfolding unused_from
push_from n zero = let e : n + 0 ≡ n = omega arith in ap (λ (k : ℕ). unused k ∷ []) e
push_from n (suc count) =
    let e : n + 1 + count ≡ n + suc count = omega arith in
    ap (λ (l : List SeatState). unused n ∷ l) (ap (λ (k : ℕ). unused_from (n + 1) count ++ unused k ∷ []) (sym e) ∙ push_from (n + 1) count)

-- one more buffer
pub unused_push : (count : ℕ) → unused_from 0 count ++ unused count ∷ [] ≡ unused_from 0 (count + 1)
unused_push count =
    let e : count ≡ 0 + count = omega arith in
    let next : suc count ≡ count + 1 = omega arith in
    ap (λ (k : ℕ). unused_from 0 count ++ unused k ∷ []) e ∙ push_from 0 count ∙ ap (unused_from 0) next

pub no_unused : [] ≡ unused_from 0 0
unfolding unused_from
no_unused = refl

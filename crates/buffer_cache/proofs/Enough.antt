-- Forty-six buffers are enough.
use Rattle.buffer_cache.proofs.Vocabulary.{◌≡◌, inl, inr, ℕ, zero, suc, ◌+◌, ◌*◌, ◌<◌, ◌≤◌, List, [], ◌∷◌, length, Bool, true, false, cond, not, ◌&&◌, ◌==◌, refl, sym, ◌∙◌, ap, subst, arith, Option, Some, None, IsSome, is_some, is_none, if◌then◌else◌, cases_eq, nat_tests, none-some, find, count_of, SeatState, is_number, is_held_by, is_out, is_pinned, is_free, IsBelow, HoldersBelow}

-- if none is free, each is pinned or out
none_free : (ss : List SeatState) → find is_free ss ≡ None → length ss ≤ count_of is_pinned ss + count_of is_out ss
none_free [] e = omega arith
none_free (s ∷ ss) e = seat s.pinned s.holder e (none_free ss)
  where
    seat : (p : Bool) (h : Option ℕ) → (if not p && is_none h then Some s else find is_free ss) ≡ None → (find is_free ss ≡ None → length ss ≤ count_of is_pinned ss + count_of is_out ss)
        → suc (length ss) ≤ (cond p 1 0 + count_of is_pinned ss) + (cond (is_some h) 1 0 + count_of is_out ss)
    seat true h e more = let a = more e in omega (arith, a)
    seat false (Some k) e more = let a = more e in omega (arith, a)
    seat false None e more = absurd (none-some s (sym e))

-- how many are out in the hands of the first n harts
abbrev held_below : ℕ → List SeatState → ℕ
held_below zero ss = 0
held_below (suc n) ss = count_of (is_held_by n) ss + held_below n ss

held_cons : (n : ℕ) (s : SeatState) (ss : List SeatState) → held_below n (s ∷ ss) ≡ held_below n (s ∷ []) + held_below n ss
held_cons zero s ss = refl
held_cons (suc n) s ss = let a = held_cons n s ss in omega (arith, a)

held_one : (n k : ℕ) (s : SeatState) → s.holder ≡ Some k → k < n → 1 ≤ held_below n (s ∷ [])
held_one zero k s e lt = absurd (omega arith)
held_one (suc n) k s e lt = elim (cases_eq k n) [
  | inl is ↦ let here : is_number n s.holder ≡ true = ap (is_number n) e ∙ same_number k n is in let one : ℕ = 1 in let a : cond (is_number n s.holder) one 0 ≡ one = ap (λ (t : Bool). cond t one 0) here in omega (arith, a)
  | inr ne ↦ let a = held_one n k s e (omega (arith, lt, ne)) in omega (arith, a)
]
  where
    same_number : (k n : ℕ) → k ≡ n → (k == n) ≡ true
    same_number k n e = grind (arith, nat_tests)

out_is_held : (n : ℕ) (ss : List SeatState) → HoldersBelow n ss → count_of is_out ss ≤ held_below n ss
out_is_held n [] below = omega arith
out_is_held n (s ∷ ss) below =
    let rest = out_is_held n ss below.1 in
    let split = held_cons n s ss in
    let here = one_out s.holder refl below.0 in
    omega (arith, rest, split, here)
  where
    one_out : (h : Option ℕ) → s.holder ≡ h → IsBelow n h → cond (is_some h) 1 0 ≤ held_below n (s ∷ [])
    one_out None e b = omega arith
    one_out (Some k) e b = held_one n k s e b

held_le : (ss : List SeatState) → ((h : ℕ) → count_of (is_held_by h) ss ≤ 2) → (n : ℕ) → held_below n ss ≤ 2 * n
held_le ss two zero = omega arith
held_le ss two (suc n) = let a = held_le ss two n in let b = two n in omega (arith, a, b)

held_less : (ss : List SeatState) → ((h : ℕ) → count_of (is_held_by h) ss ≤ 2) → (hart : ℕ) → count_of (is_held_by hart) ss ≤ 1 → (n : ℕ) → hart < n → held_below n ss + 1 ≤ 2 * n
held_less ss two hart one zero lt = absurd (omega arith)
held_less ss two hart one (suc n) lt = elim (cases_eq n hart) [
  | inl is ↦ let a = held_le ss two n in let b : count_of (is_held_by n) ss ≤ 1 = subst (λ (h : ℕ). count_of (is_held_by h) ss ≤ 1) (sym is) one in omega (arith, a, b)
  | inr ne ↦ let a = held_less ss two hart one n (omega (arith, lt, ne)) in let b = two n in omega (arith, a, b)
]

-- eight harts have two buffers at most, one of them asks with one at most, and thirty buffers are pinned: then one of
-- 46 is free
pub some_free : (ss : List SeatState) (hart : ℕ) → hart < 8 → length ss ≡ 46 → count_of is_pinned ss ≤ 30 → ((h : ℕ) → count_of (is_held_by h) ss ≤ 2) → HoldersBelow 8 ss → count_of (is_held_by hart) ss ≤ 1
    → IsSome (find is_free ss)
some_free ss hart lt long pinned two below one = by_first (find is_free ss) refl
  where
    by_first : (o : Option SeatState) → find is_free ss ≡ o → IsSome o
    by_first (Some s) e = refl
    by_first None e =
        let all = none_free ss e in
        let out = out_is_held 8 ss below in
        let few = held_less ss two hart one 8 lt in
        absurd (omega (arith, all, out, few, long, pinned))

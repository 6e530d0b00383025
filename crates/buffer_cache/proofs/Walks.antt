-- Going along links.
use Rattle.buffer_cache.proofs.Vocabulary.{◌≡◌, ℕ, zero, suc, ◌+◌, ◌-◌, ◌<◌, ◌≤◌, List, get_or, Bool, true, false, cond, sym, ◌∙◌, ap, subst, arith, Option, Some, None, find, count_of, is_same, follow, IsRing}
use Rattle.buffer_cache.proofs.Rings.{count_here, ring_within}

-- the first that passes is among the numbers that are left
pub record IsGoing (q : ℕ → Bool) (next : List ℕ) (at left : ℕ) (o : Option ℕ) : Type 0 where
  pub here : at ≤ 46
  pub within : (k : ℕ) → 1 ≤ count_of (is_same k) (follow next at left) → k < 46
  pub found : find q (follow next at left) ≡ o

pub going_begun : (q : ℕ → Bool) (x y order : List ℕ) → IsRing 46 x y → follow x 46 46 ≡ order → IsGoing q x 46 46 (find q order)
going_begun q x y order ring is = record { here = omega arith; within = λ k some. ring_within 46 x y k ring some; found = ap (find q) is }

pub record Going (q : ℕ → Bool) (next : List ℕ) (at n left : ℕ) (o : Option ℕ) : Type 0 where
  pub within : n < 46
  pub passes : q n ≡ true → Some n ≡ o
  pub on : q n ≡ false → IsGoing q next n left o

go_on : (q : ℕ → Bool) (x : List ℕ) (at left : ℕ) (o : Option ℕ) → IsGoing q x at (suc left) o → Going q x at (get_or x at 0) left o
unfolding follow
go_on q x at left o is = record {
  within = lt;
  passes = λ passes. sym (ap (λ (t : Bool). cond t (Some n) (find q (follow x n left))) passes) ∙ is.found;
  on = λ isnt. record {
    here = omega (arith, lt);
    within = λ k some. is.within k (omega (arith, some));
    found = sym (ap (λ (t : Bool). cond t (Some n) (find q (follow x n left))) isnt) ∙ is.found;
  };
}
  where
    n : ℕ
    n = get_or x at 0

    lt : n < 46
    lt = is.within n (let here = count_here n (follow x n left) in omega (arith, here))

pub goes_on : (q : ℕ → Bool) (x : List ℕ) (at gone : ℕ) (o : Option ℕ) → gone < 46 → IsGoing q x at (46 - gone) o → Going q x at (get_or x at 0) (46 - (gone + 1)) o
goes_on q x at gone o lt is =
    let e : 46 - gone ≡ suc (46 - (gone + 1)) = omega arith in
    go_on q x at (46 - (gone + 1)) o (subst (λ (k : ℕ). IsGoing q x at k o) e is)

pub gone : (q : ℕ → Bool) (x : List ℕ) (at left : ℕ) (o : Option ℕ) → left ≡ 0 → IsGoing q x at left o → None ≡ o
unfolding follow
gone q x at zero o e is = is.found
gone q x at (suc left) o e is = absurd (omega (arith, e))

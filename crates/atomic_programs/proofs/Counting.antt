-- Counting.
use Rattle.atomic_programs.proofs.Vocabulary.{◌≡◌, ◌≢◌, ℕ, zero, suc, ◌-◌, Some, refl, sym, ap, arith, asks, Twice, answer_to, counting, lower, upper}
use Rattle.atomic_programs.specs.Below as layers
use Rattle.atomic_programs.specs.Toy.{handler}

pub asks_twice : (n : ℕ) → asks (counting n) ≡ Some Twice
asks_twice zero = refl
asks_twice (suc n) = refl

pub goes_down : (n x : ℕ) → n ≢ 0 → layers.hears upper lower handler answer_to (counting n) x ≡ counting (n - 1)
goes_down zero x some = absurd (some refl)
goes_down (suc n) x some = let e : suc n - 1 ≡ n = omega arith in ap counting (sym e)

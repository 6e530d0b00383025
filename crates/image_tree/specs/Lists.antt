-- Lists of numbers that are gathered inode by inode.
use Rattle.std.specs.Prelude.{◌≢◌, ℕ, zero, suc, ◌+◌, ◌==◌, Bool, List, [], ◌++◌, if◌then◌else◌}
use Rattle.image_tree.specs.Vocabulary.{AllPairs, count_by}

-- nothing is in it twice
pub record IsOnce {X : Type 0} (xs : List X) : Type 0 where
  pub apart : AllPairs (λ x y. x ≢ y) xs

-- how often a number is in a list
abbrev pub times : ℕ → List ℕ → ℕ
times n xs = count_by (λ x. x == n) xs

-- the numbers of 1, of 2, and so on up to n, one after the other
unfoldable pub gathered : (ℕ → List ℕ) → ℕ → List ℕ
gathered f zero = []
gathered f (suc n) = gathered f n ++ f (suc n)

-- how many of 1 to n pass
unfoldable pub count_upto : (ℕ → Bool) → ℕ → ℕ
count_upto p zero = 0
count_upto p (suc n) = count_upto p n + (if p (suc n) then 1 else 0)

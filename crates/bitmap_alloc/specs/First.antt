-- The first clear bit of a bitmap block.
use Rattle.std.specs.Prelude.{ℕ, zero, suc, List, Bool, not, Option, Some, None, if◌then◌else◌}
use Rattle.bitmap_alloc.specs.Vocabulary.{bit_of}

-- the number that was found, else this number if it passes the test
abbrev pub else_this : (ℕ → Bool) → ℕ → Option ℕ → Option ℕ
else_this p n (Some k) = Some k
else_this p n None = if p n then Some n else None

-- the first number below a limit that passes a test
abbrev pub first_below : (ℕ → Bool) → ℕ → Option ℕ
first_below p zero = None
first_below p (suc n) = else_this p n (first_below p n)

-- the first clear bit below a limit
unfoldable pub first_clear_below : ℕ → List ℕ → Option ℕ
first_clear_below limit bitmap = first_below (λ b. not (bit_of bitmap b)) limit

-- Numbers that are linked: each has the number after it, and the one before it.
use Rattle.std.specs.Prelude.{◌≡◌, ℕ, zero, suc, ◌+◌, ◌%◌, ◌<◌, List, [], ◌∷◌, length, map, Bool, if◌then◌else◌, nat_lt, slice_index, slice_index_or, Option, Some, None}
use Rattle.buffer_cache.specs.Vocabulary.{range_with_len}
use Rattle.buffer_cache.specs.Limits.{buffer_count}
use Rattle.buffer_cache.specs.Lists.{count_of}
use Rattle.buffer_cache.specs.Seats.{SeatState}

-- the first of these numbers, else this one
abbrev pub first_or : List ℕ → ℕ → ℕ
first_or [] b = b
first_or (n ∷ ns) b = n

-- these numbers are linked to one another in their order, and the last one to b
abbrev pub IsPath : List ℕ → List ℕ → List ℕ → ℕ → Type 0
IsPath next previous [] b = Unit {0}
IsPath next previous (n ∷ ns) b =
    (slice_index next n ≡ first_or ns b) × (slice_index previous (first_or ns b) ≡ n) × IsPath next previous ns b

-- the next `count` numbers after one, in their order
unfoldable pub follow : List ℕ → ℕ → ℕ → List ℕ
follow next a zero = []
follow next a (suc count) = slice_index next a ∷ follow next (slice_index next a) count

-- the numbers up to the last one are in one ring
pub record IsRing (last : ℕ) (next previous : List ℕ) : Type 0 where
  pub path : IsPath next previous (last ∷ follow next last last) last
  pub each : (p : ℕ → Bool) → count_of p (follow next last last) ≡ count_of p (range_with_len 0 last)

-- There are thirteen chains of buffers that have a block, and one of those that have none. Each begins after a number
-- of its own, its head.
abbrev pub no_block : ℕ
no_block = 59

abbrev pub head_of : Option ℕ → ℕ
head_of None = no_block
head_of (Some b) = buffer_count + b % 13

-- the block that a buffer has
abbrev pub block_in : List (Option ℕ) → ℕ → Option ℕ
block_in blocks n = slice_index_or blocks n None

abbrev pub head_behind : ℕ → ℕ → ℕ
head_behind head n = if nat_lt n buffer_count then head else n

-- after a head each buffer is of its chain, up to the next head
abbrev pub AreGrouped : List (Option ℕ) → ℕ → List ℕ → Type 0
AreGrouped blocks head [] = Unit {0}
AreGrouped blocks head (n ∷ ns) = (n < buffer_count → head_of (block_in blocks n) ≡ head) × AreGrouped blocks (head_behind head n) ns

abbrev pub IsGrouped : List (Option ℕ) → List ℕ → Type 0
IsGrouped blocks chains = AreGrouped blocks no_block chains

-- each buffer is in the chain of its block
pub record IsChained (seats : List SeatState) (chains : List ℕ) : Type 0 where
  pub count : length seats ≡ buffer_count
  pub grouped : IsGrouped (map (λ (s : SeatState). s.block) seats) chains

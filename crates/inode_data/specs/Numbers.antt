-- The numbers of a content's blocks.
use Rattle.std.specs.Prelude.{◌≡◌, ◌≢◌, ℕ, ◌<◌, ◌≤◌, List, slice_index, Option, Some, None}

-- the first number from this place on that isn't 0
abbrev pub IsNext : List ℕ → ℕ → Option ℕ → Type 0
IsNext numbers from None = (k : ℕ) → from ≤ k → slice_index numbers k ≡ 0
IsNext numbers from (Some i) = (from ≤ i) × (slice_index numbers i ≢ 0) × ((k : ℕ) → from ≤ k → k < i → slice_index numbers k ≡ 0)

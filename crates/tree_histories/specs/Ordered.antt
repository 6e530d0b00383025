-- The calls that have to go on, in the order in which they have to return.
use Rattle.std.specs.Prelude.{◌≡◌, ℕ, ◌≤◌, ◌<◌, List, length, Option, Some, None, slice_index_or}
use Rattle.tree_histories.specs.Vocabulary.{IsNonDecreasingBy}
use Rattle.tree_histories.specs.declared.ends.Due.{Due}

-- the call has to go on, and none has to end before it
pub record IsDue (ends : List (Option ℕ)) (d : Due) : Type 0 where
  pub end : slice_index_or ends d.id None ≡ Some d.limit
  pub least : (id e : ℕ) → slice_index_or ends id None ≡ Some e → d.limit ≤ e

-- it is in the list at this place or after it
abbrev pub StandsFrom : ℕ → List Due → Due → Type 0
StandsFrom from order d = (place : ℕ) × (from ≤ place) × (place < length order) × (slice_index_or order place d ≡ d)

-- The order rises by the ends, and has from this place on each call that has to go on.
pub record IsOrdered (ends : List (Option ℕ)) (order : List Due) (from : ℕ) : Type 0 where
  pub rises : IsNonDecreasingBy (λ (d : Due). d.limit) order
  pub stand : (id e : ℕ) → slice_index_or ends id None ≡ Some e → StandsFrom from order (record { id = id; limit = e })

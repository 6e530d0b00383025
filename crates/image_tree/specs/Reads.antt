-- A device that is only read.
use Rattle.std.specs.Prelude.{◌≡◌, ℕ, List}

-- its contents stay as they were, and its count of failures becomes what `after` makes of it
pub record OnlyReads {D : Type 0} (contents_of : D → List (List ℕ)) (failures_of : D → ℕ) (after : ℕ → ℕ) (old new : D) : Type 0 where
  pub contents : contents_of new ≡ contents_of old
  pub faults : failures_of new ≡ after (failures_of old)

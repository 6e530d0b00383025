-- The buffers of the group.
use Rattle.std.specs.Prelude.{◌≡◌, ℕ, List, true, IsSome}
use Rattle.group_log.specs.Vocabulary.{MatchOption, SeatState, seat_of}

-- it keeps what was recorded until it was copied home
pub record KeepsRecorded (s : SeatState) : Type 0 where
  pub pinned : s.pinned ≡ true
  pub valid : IsSome s.content

-- the block has such a buffer
abbrev pub HasRecorded : List SeatState → ℕ → Type 0
HasRecorded seats b = MatchOption (seat_of b seats) ⊥ KeepsRecorded

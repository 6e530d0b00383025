-- What the hart of the workloads has in its hand.
use Rattle.std.specs.Prelude.{◌≡◌, ℕ, List}
use Rattle.fs_machine.specs.Vocabulary.{GuardState, BufferState, count_of, SeatState, is_held_by}

abbrev pub this_hart : ℕ
this_hart = 1

-- no buffer
abbrev pub HasNone : List SeatState → Type 0
HasNone seats = count_of (is_held_by this_hart) seats ≡ 0

-- this buffer and no other
abbrev pub HasOne : List SeatState → GuardState BufferState → Type 0
HasOne seats guard = (count_of (is_held_by this_hart) seats ≡ 1) × (guard.hart ≡ this_hart)

-- The buffers in a commit.
use Rattle.std.specs.Prelude.{ℕ, List, length, Bool, false, if◌then◌else◌, ◌==◌, is_some, slice_index}
use Rattle.group_log.specs.Vocabulary.{SeatState, holder_of, with_seat, with_pin, given_back}
use Rattle.group_log.specs.declared.phase.Phase.{Phase}
use Rattle.group_log.specs.declared.phase.Phase.TheVariants.{Open, Staging, Installing, Halted}

-- the next write copies a block whose buffer is out
abbrev pub turn_is_out : List SeatState → List ℕ → Phase → Bool
turn_is_out seats group Open = false
turn_is_out seats group (Staging i) = if i == length group then false else is_some (holder_of (slice_index group i) seats)
turn_is_out seats group (Installing i) = if i == length group then false else is_some (holder_of (slice_index group i) seats)
turn_is_out seats group Halted = false

-- the buffers after the next write: the copied block's is the most recent one, and once it is home it isn't pinned any more
abbrev pub seats_after : List ℕ → Phase → List SeatState → List SeatState
seats_after group Open seats = seats
seats_after group (Staging i) seats = if i == length group then seats else given_back (slice_index group i) seats
seats_after group (Installing i) seats =
    if i == length group then seats else given_back (slice_index group i) (with_seat (slice_index group i) (with_pin false) seats)
seats_after group Halted seats = seats

-- and after one that failed
abbrev pub seats_at_fault : List ℕ → Phase → List SeatState → List SeatState
seats_at_fault group Open seats = seats
seats_at_fault group (Staging i) seats = if i == length group then seats else given_back (slice_index group i) seats
seats_at_fault group (Installing i) seats = if i == length group then seats else given_back (slice_index group i) seats
seats_at_fault group Halted seats = seats

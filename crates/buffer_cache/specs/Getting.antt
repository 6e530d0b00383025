-- What a get answers, and what it leaves.
use Rattle.std.specs.Prelude.{ℕ, List, if◌then◌else◌, Option, Some, None}
use Rattle.buffer_cache.specs.Vocabulary.{find, GuardState}
use Rattle.buffer_cache.specs.Buffers.{BufferState}
use Rattle.buffer_cache.specs.Lists.{change_first}
use Rattle.buffer_cache.specs.Seats.{SeatState, seat_of, is_free, is_out, with_holder, as_new, with_seat}
use Rattle.buffer_cache.specs.declared.got.Got.{Got}
use Rattle.buffer_cache.specs.declared.got.Got.TheVariants.{Held, Waits}

-- this seat's buffer in the hart's hand, for this block
abbrev pub guard_of : ℕ → ℕ → SeatState → Option (List ℕ) → GuardState BufferState
guard_of hart b s content = record { number = s.number; hart = hart; value = record { block = b; content = content } }

-- if no buffer has the block: the first free one is taken for it (there always is one)
abbrev pub get_new : ℕ → ℕ → List SeatState → Option SeatState → List SeatState × Got
get_new hart b seats None = (seats, Waits)
get_new hart b seats (Some s) = (change_first is_free (as_new hart b) seats, Held (guard_of hart b s None))

-- by the buffer that has the block
abbrev pub get_by : ℕ → ℕ → List SeatState → Option SeatState → List SeatState × Got
get_by hart b seats None = get_new hart b seats (find is_free seats)
get_by hart b seats (Some s) =
    if is_out s then (seats, Waits) else (with_seat b (with_holder hart) seats, Held (guard_of hart b s s.content))

-- The block's buffer if one has it, and a wait if that is out. Else, of those that are neither out nor pinned, the
-- least recently given back one.
unfoldable pub get_of : ℕ → ℕ → List SeatState → List SeatState × Got
get_of hart b seats = get_by hart b seats (seat_of b seats)

-- what holds of the guard, if one was got
abbrev pub IfHeld : Got → (GuardState BufferState → Type 0) → Type 0
IfHeld (Held guard) P = P guard
IfHeld Waits P = Unit {0}

-- The buffers of a cache, in order of giving back: the first was given back least recently.
use Rattle.std.specs.Prelude.{◌≡◌, ◌≢◌, ℕ, zero, suc, ◌+◌, ◌<◌, ◌≤◌, List, [], ◌∷◌, length, Bool, true, false, not, ◌&&◌, ◌==◌, Option, Some, None, is_some, is_none}
use Rattle.buffer_cache.specs.Vocabulary.{MatchOption, option_map, option_and_then, unwrap_or, find, GuardState, block_at}
use Rattle.buffer_cache.specs.Buffers.{BufferState}
use Rattle.buffer_cache.specs.Limits.{buffer_count, most_pinned, hart_count, buffers_of_a_hart}
use Rattle.buffer_cache.specs.Lists.{change_first, change_to_end, count_of}

-- What the cache keeps of a buffer: its number, which is its slot's, and the block that it is for, if any. If it is
-- valid, that block's bytes as they were last filled or recorded. Whether it is pinned, and the hart that has it, if
-- it is out.
pub record SeatState : Type 0 where
  pub number : ℕ
  pub block : Option ℕ
  pub content : Option (List ℕ)
  pub pinned : Bool
  pub holder : Option ℕ

-- what a cache is to its callers
pub record CacheState (D : Type 0) : Type 0 where
  pub device : D
  pub seats : List SeatState

abbrev pub is_number : ℕ → Option ℕ → Bool
is_number n None = false
is_number n (Some k) = k == n

abbrev pub has_block : ℕ → SeatState → Bool
has_block b s = is_number b s.block

abbrev pub is_held_by : ℕ → SeatState → Bool
is_held_by hart s = is_number hart s.holder

abbrev pub is_out : SeatState → Bool
is_out s = is_some s.holder

abbrev pub is_pinned : SeatState → Bool
is_pinned s = s.pinned

-- it may be taken for another block
abbrev pub is_free : SeatState → Bool
is_free s = not s.pinned && is_none s.holder

-- changes of one buffer
abbrev pub with_holder : ℕ → SeatState → SeatState
with_holder hart s = record s { holder = Some hart }

abbrev pub without_holder : SeatState → SeatState
without_holder s = record s { holder = None }

abbrev pub with_content : List ℕ → SeatState → SeatState
with_content bytes s = record s { content = Some bytes }

abbrev pub with_pin : Bool → SeatState → SeatState
with_pin pinned s = record s { pinned = pinned }

abbrev pub as_new : ℕ → ℕ → SeatState → SeatState
as_new hart b s = record s { block = Some b; content = None; holder = Some hart }

-- a buffer that was never used
abbrev pub unused : ℕ → SeatState
unused n = record { number = n; block = None; content = None; pinned = false; holder = None }

-- `count` of these, numbered from n on
unfoldable pub unused_from : ℕ → ℕ → List SeatState
unused_from n zero = []
unused_from n (suc count) = unused n ∷ unused_from (n + 1) count

-- a block's buffer
abbrev pub seat_of : ℕ → List SeatState → Option SeatState
seat_of b seats = find (has_block b) seats

-- the number of a block's buffer
abbrev pub slot_of : ℕ → List SeatState → Option ℕ
slot_of b seats = option_map (λ (s : SeatState). s.number) (seat_of b seats)

-- a block's buffer is there, and passes
abbrev pub Passes : (SeatState → Bool) → ℕ → List SeatState → Type 0
Passes p b seats = option_map p (seat_of b seats) ≡ Some true

-- a block's buffer is pinned; and, pinned, it is valid too, as a recorded one is
abbrev pub IsPinned : ℕ → List SeatState → Type 0
IsPinned b seats = Passes is_pinned b seats

abbrev pub is_recorded : SeatState → Bool
is_recorded s = s.pinned && is_some s.content

abbrev pub IsRecorded : ℕ → List SeatState → Type 0
IsRecorded b seats = Passes is_recorded b seats

abbrev pub is_any : SeatState → Bool
is_any s = true

-- buffers that pass go on to
abbrev pub Keeps : (SeatState → Bool) → List SeatState → List SeatState → Type 0
Keeps p old new = (k : ℕ) → Passes p k old → Passes p k new

-- the hart that has a block's buffer in its hand
abbrev pub holder_of : ℕ → List SeatState → Option ℕ
holder_of b seats = option_and_then (λ (s : SeatState). s.holder) (seat_of b seats)

-- the bytes that the cache keeps of a block
abbrev pub kept : ℕ → List SeatState → Option (List ℕ)
kept b seats = option_and_then (λ (s : SeatState). s.content) (seat_of b seats)

-- a block as it is seen: as its buffer keeps it, else as it is on the disk
abbrev pub seen_in : List (List ℕ) → List SeatState → ℕ → List ℕ
seen_in disk seats b = unwrap_or (kept b seats) (block_at disk b)

abbrev pub seen : {D : Type 0} → (D → List (List ℕ)) → CacheState D → ℕ → List ℕ
seen contents c b = seen_in (contents c.device) c.seats b

-- after a block's buffer was changed in its place
abbrev pub with_seat : ℕ → (SeatState → SeatState) → List SeatState → List SeatState
with_seat b f seats = change_first (has_block b) f seats

-- after a block's buffer was given back: it is the most recent one
abbrev pub given_back : ℕ → List SeatState → List SeatState
given_back b seats = change_to_end (has_block b) without_holder seats

-- this guard has that buffer
pub record IsGuardOf (guard : GuardState BufferState) (seat : SeatState) : Type 0 where
  pub number : seat.number ≡ guard.number
  pub holder : seat.holder ≡ Some guard.hart
  pub valid : is_some seat.content ≡ is_some guard.value.content

-- the guard's buffer is its block's, out in its hart's hand
abbrev pub IsHeld : List SeatState → GuardState BufferState → Type 0
IsHeld seats guard = MatchOption (seat_of guard.value.block seats) ⊥ (IsGuardOf guard)

-- what was in a hart's hand stays so
abbrev pub KeepsHeld : List SeatState → List SeatState → Type 0
KeepsHeld old new = (guard : GuardState BufferState) → IsHeld old guard → IsHeld new guard

-- the same for the buffers of other blocks
abbrev pub KeepsOthers : ℕ → List SeatState → List SeatState → Type 0
KeepsOthers b old new = (guard : GuardState BufferState) → guard.value.block ≢ b → IsHeld old guard → IsHeld new guard

-- the bytes of a buffer that isn't pinned are those of its block
abbrev pub IsCleanSeat : List (List ℕ) → SeatState → Type 0
IsCleanSeat disk s = (b : ℕ) (bytes : List ℕ) → s.block ≡ Some b → s.pinned ≡ false → s.content ≡ Some bytes → bytes ≡ block_at disk b

abbrev pub AllClean : List (List ℕ) → List SeatState → Type 0
AllClean disk [] = Unit {0}
AllClean disk (s ∷ ss) = IsCleanSeat disk s × AllClean disk ss

abbrev pub IsBelow : ℕ → Option ℕ → Type 0
IsBelow n None = Unit {0}
IsBelow n (Some k) = k < n

abbrev pub HoldersBelow : ℕ → List SeatState → Type 0
HoldersBelow n [] = Unit {0}
HoldersBelow n (s ∷ ss) = IsBelow n s.holder × HoldersBelow n ss

-- it was never used; it holds a block, and is in
abbrev pub is_unused : SeatState → Bool
is_unused s = is_none s.block

abbrev pub is_settled : SeatState → Bool
is_settled s = is_some s.block && is_none s.holder

-- buffers that were never used are free, and come before those that hold a block and are in
abbrev pub UnusedFirst : List SeatState → Type 0
UnusedFirst [] = Unit {0}
UnusedFirst (s ∷ ss) = (is_settled s ≡ true → count_of is_unused ss ≡ 0) × (is_unused s ≡ true → is_free s ≡ true) × UnusedFirst ss

-- What holds of each cache: 46 buffers, at most 30 of them pinned, and at most two in the hands of each of eight
-- harts. A block has one buffer at most, and a buffer that isn't pinned is as its block on the disk.
pub record IsSound (disk : List (List ℕ)) (seats : List SeatState) : Type 0 where
  pub count : length seats ≡ buffer_count
  pub few_pinned : count_of is_pinned seats ≤ most_pinned
  pub few_out : (hart : ℕ) → count_of (is_held_by hart) seats ≤ buffers_of_a_hart
  pub harts : HoldersBelow hart_count seats
  pub once : (b : ℕ) → count_of (has_block b) seats ≤ 1
  pub clean : AllClean disk seats
  pub unused : UnusedFirst seats

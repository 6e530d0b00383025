-- The order of giving back, as the numbers of the buffers.
use Rattle.std.specs.Prelude.{◌≡◌, ℕ, List, Bool, ◌==◌, map, slice_index_or}
use Rattle.buffer_cache.specs.Vocabulary.{range_with_len, SlotState}
use Rattle.buffer_cache.specs.Buffers.{BufferState}
use Rattle.buffer_cache.specs.Limits.{buffer_count}
use Rattle.buffer_cache.specs.Lists.{count_of}
use Rattle.buffer_cache.specs.Seats.{SeatState, unused}
use Rattle.buffer_cache.specs.Rows.{IsSeated}
use Rattle.buffer_cache.specs.Links.{IsChained}

-- the seat in the place of this number
abbrev pub numbered : List SeatState → ℕ → SeatState
numbered seats n = slice_index_or seats n (unused n)

abbrev pub in_order : List SeatState → List ℕ → List SeatState
in_order seats order = map (numbered seats) order

-- the numbers of all buffers
unfoldable pub numbers : List ℕ
numbers = range_with_len 0 buffer_count

abbrev pub is_same : ℕ → ℕ → Bool
is_same n k = k == n

-- each seat is in the place of its number, and each number is once in the order
pub record IsOrdered (seats : List SeatState) (order : List ℕ) : Type 0 where
  pub places : map (λ (s : SeatState). s.number) seats ≡ numbers
  pub all : (p : ℕ → Bool) → count_of p order ≡ count_of p numbers

pub record IsKept (slots : List (SlotState BufferState)) (seats : List SeatState) (order : List ℕ) : Type 0 where
  pub seated : IsSeated slots seats
  pub ordered : IsOrdered seats order

-- and each is found by its block
pub record IsLinked (slots : List (SlotState BufferState)) (seats : List SeatState) (order chains : List ℕ) : Type 0 where
  pub kept : IsKept slots seats order
  pub chained : IsChained seats chains

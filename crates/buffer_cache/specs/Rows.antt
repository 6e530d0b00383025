-- How the slots of the buffers go with their seats.
use Rattle.std.specs.Prelude.{◌≡◌, ℕ, ◌≤◌, List, [], ◌∷◌, Bool, ◌==◌, Option, Some, None, slice_get}
use Rattle.buffer_cache.specs.Vocabulary.{SlotState}
use Rattle.buffer_cache.specs.Buffers.{BufferState}
use Rattle.buffer_cache.specs.Lists.{count_of}
use Rattle.buffer_cache.specs.Seats.{SeatState}

abbrev pub has_number : ℕ → SeatState → Bool
has_number n s = s.number == n

-- by the holder and what is in the slot: it is in with these bytes, or out
abbrev pub InsideFits : Option (List ℕ) → Option ℕ → Option BufferState → Type 0
InsideFits content None None = ⊥
InsideFits content None (Some v) = v.content ≡ content
InsideFits content (Some h) None = Unit {0}
InsideFits content (Some h) (Some v) = ⊥

abbrev pub SlotFits : SeatState → Option (SlotState BufferState) → Type 0
SlotFits s None = ⊥
SlotFits s (Some x) = (x.number ≡ s.number) × (x.holder ≡ s.holder) × InsideFits s.content s.holder x.inside

abbrev pub AllSeated : List (SlotState BufferState) → List SeatState → Type 0
AllSeated slots [] = Unit {0}
AllSeated slots (s ∷ ss) = SlotFits s (slice_get slots s.number) × AllSeated slots ss

-- each seat has a slot of its own, which has the buffer or gave it to the seat's holder
pub record IsSeated (slots : List (SlotState BufferState)) (seats : List SeatState) : Type 0 where
  pub all : AllSeated slots seats
  pub apart : (n : ℕ) → count_of (has_number n) seats ≤ 1

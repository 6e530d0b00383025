-- Seats as callers see them.
use Rattle.std.specs.Prelude.{ℕ, ◌+◌, ◌≡◌, ◌≢◌, List, Contains, slice_get}
use Rattle.hart_runner.specs.Vocabulary.{StoredRun, replies_of, Reply, Call}
use Rattle.hart_runner.specs.declared.kernel.Kept.{Kept}

-- a hart, its replies, and what its share counts
pub record SeatV : Type 0 where
  pub hart : ℕ
  pub replies : List Reply
  pub count : ℕ

-- the same with the call that it is busy with
pub record BusyV : Type 0 where
  pub hart : ℕ
  pub replies : List Reply
  pub count : ℕ
  pub call : Call

-- a hart and its replies
pub record KeptV : Type 0 where
  pub hart : ℕ
  pub replies : List Reply

abbrev pub kept_view : Kept → KeptV
kept_view k = record { hart = k.hart; replies = k.replies.items }

-- the hart and the replies of a seat
abbrev pub kept_of : SeatV → KeptV
kept_of s = record { hart = s.hart; replies = s.replies }

-- once the call was started
abbrev pub busy_of : SeatV → Call → BusyV
busy_of s c = record { hart = s.hart; replies = s.replies; count = s.count + 1; call = c }

-- these are the replies of their hart in the list, in order
abbrev pub IsListed : StoredRun → KeptV → Type 0
IsListed c k = k.replies ≡ replies_of k.hart c

-- the reply at this place of one of these is not its hart's in the list
abbrev pub OneDiffers : ℕ → ℕ → StoredRun → List KeptV → Type 0
OneDiffers hart place c all =
    (k : KeptV) × Contains all k × (k.hart ≡ hart) × (slice_get k.replies place ≢ slice_get (replies_of hart c) place)

-- the same of seats
abbrev pub Differs : ℕ → ℕ → StoredRun → List SeatV → Type 0
Differs hart place c seats =
    (s : SeatV) × Contains seats s × (s.hart ≡ hart) × (slice_get s.replies place ≢ slice_get (replies_of hart c) place)

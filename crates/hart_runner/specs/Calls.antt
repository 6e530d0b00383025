-- What a call says.
use Rattle.std.specs.Prelude.{ℕ, ◌≡◌, ◌+◌, ◌++◌, ◌∷◌, [], length}
use Rattle.hart_runner.specs.Vocabulary.{Call, HandsBack, Receipt}
use Rattle.hart_runner.specs.Seats.{SeatV, BusyV, busy_of}
use Rattle.hart_runner.specs.declared.kernel.CallFault.{CallFault}
use Rattle.hart_runner.specs.declared.kernel.CallFault.TheVariants.{Start, Memory, Stopped}
use Rattle.hart_runner.specs.declared.kernel.CallEnd.{CallEnd}
use Rattle.hart_runner.specs.declared.kernel.CallEnd.TheVariants.{Done, Halts}

-- a hart's steps to the end of its call, at the count a before and b after
abbrev pub WentOn : {L : _} → ℕ → ℕ → CallEnd L → ℕ → Type 0
WentOn hart a (Done r) b = (r.hart ≡ hart) × (b ≡ a + 1)
WentOn hart a (Halts x) b = b ≡ a

-- the receipt is the busy seat's next reply, of its call, and the seat has it
abbrev pub IsAnswered : {L : _} → BusyV → SeatV → Receipt L → Type 0
IsAnswered b t r =
    (r.hart ≡ b.hart) × (r.place ≡ length b.replies) × HandsBack b.call r.reply
    × (t ≡ record { hart = b.hart; replies = b.replies ++ r.reply ∷ []; count = b.count + 1 })

-- nothing was started, or the seat is busy with this call
abbrev pub IsRefused : {L : _} → SeatV → Call → CallFault L → Type 0
IsRefused s c (Start t d why) = (t ≡ s) × (d ≡ c)
IsRefused s c (Memory t d) = (t ≡ s) × (d ≡ c)
IsRefused s c (Stopped b x) = b ≡ busy_of s c

abbrev pub StillBusy : {L : _} → BusyV → CallFault L → Type 0
StillBusy b (Start t d why) = ⊥
StillBusy b (Memory t d) = ⊥
StillBusy b (Stopped c x) = c ≡ b

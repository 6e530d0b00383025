-- Receipts beside seats and lists.
use Rattle.std.specs.Prelude.{◌≡◌, Some, slice_get}
use Rattle.hart_runner.specs.Vocabulary.{StoredRun, replies_of, Receipt}
use Rattle.hart_runner.specs.Seats.{SeatV}

-- the receipt is one of the seat's replies
abbrev pub Has : {L : _} → SeatV → Receipt L → Type 0
Has t r = (r.hart ≡ t.hart) × (slice_get t.replies r.place ≡ Some (r.reply))

-- the receipt's reply is in the list, at its place among its hart's
abbrev pub StandsIn : {L : _} → StoredRun → Receipt L → Type 0
StandsIn c r = slice_get (replies_of r.hart c) r.place ≡ Some (r.reply)

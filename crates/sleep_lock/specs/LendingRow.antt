use Rattle.std.specs.Prelude.{ℕ, List, slice_set}
use Rattle.std.specs.Borrow.{Lends, MutBor, Fml, RattleType}
use Rattle.sleep_lock.specs.SleepLock.{SlotState}
use Rattle.sleep_lock.specs.contracts.slot.Slot as slot
use Rattle.sleep_lock.specs.contracts.row.Slots.{the_row}

-- the slots end with the last slot of r at that number
abbrev pub LendsSlot : (R : RattleType) → MutBor (List (SlotState R.Denot)) → ℕ → MutBor (SlotState R.Denot) → Fml
LendsSlot R s i r = Lends (the_row R) (slot.the_row R) s r (λ w. slice_set s.now i w)

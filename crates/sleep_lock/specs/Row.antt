-- Slots in a row.
use Rattle.std.specs.Prelude.{◌≡◌, ◌≢◌, ◌+◌, ℕ, List, [], ◌∷◌, Option, Some, None, slice_get, slice_set}
use Rattle.sleep_lock.specs.SleepLock.{SlotState, GuardState, guard_of, taken, filled, emptied}

-- each value in a slot of its own, numbered from n on
abbrev pub row_of : {T : Type 0} → ℕ → List T → List (SlotState T)
row_of n [] = []
row_of n (v ∷ vs) = filled n v ∷ row_of (n + 1) vs

-- the row, and what a hart gets when it tries to take the value of that slot
abbrev pub lock_at : {T : Type 0} → List (SlotState T) → ℕ → ℕ → Option (SlotState T) → List (SlotState T) × Option (GuardState T)
lock_at slots number hart None = (slots, None)
lock_at slots number hart (Some s) = (slice_set slots number (taken s hart), guard_of s hart)

-- the same for the slot at this number
unfoldable pub lock_of : {T : Type 0} → List (SlotState T) → ℕ → ℕ → List (SlotState T) × Option (GuardState T)
lock_of slots number hart = lock_at slots number hart (slice_get slots number)

-- the row after this guard was put back
unfoldable pub unlocked : {T : Type 0} → List (SlotState T) → GuardState T → List (SlotState T)
unlocked slots g = slice_set slots g.number (filled g.number g.value)

-- the slot of the guard is out in its hart's hand
unfoldable pub IsOut : {T : Type 0} → List (SlotState T) → GuardState T → Type 0
IsOut slots g = slice_get slots g.number ≡ Some (emptied g)

-- each slot has its place as number
unfoldable pub IsNumbered : {T : Type 0} → List (SlotState T) → Type 0
IsNumbered {T} slots = (k : ℕ) (s : SlotState T) → slice_get slots k ≡ Some s → s.number ≡ k

-- what is out in the hands of other harts stays so
abbrev pub LeavesOthers : {T : Type 0} → ℕ → List (SlotState T) → List (SlotState T) → Type 0
LeavesOthers {T} hart old new = (g : GuardState T) → g.hart ≢ hart → IsOut old g → IsOut new g

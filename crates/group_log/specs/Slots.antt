-- The slots of the group's buffers.
use Rattle.std.specs.Prelude.{◌≡◌, ℕ, ◌<◌, ◌≤◌, List, [], ◌∷◌, ◌++◌, length, Option, Some, if◌then◌else◌, slice_index}
use Rattle.group_log.specs.Vocabulary.{Super, SeatState, slot_of}
use Rattle.group_log.specs.declared.phase.Phase.{Phase}
use Rattle.group_log.specs.declared.phase.Phase.TheVariants.{Open, Staging, Installing, Halted}
use Rattle.group_log.specs.Group.{has}
use Rattle.group_log.specs.Soundness.{IsSoundLog}

-- the buffers of the group's blocks from the n-th on are in these slots
abbrev pub AreInSlots : List SeatState → List ℕ → List ℕ → ℕ → Type 0
AreInSlots seats group slots n = (k : ℕ) → n ≤ k → k < length group → slot_of (slice_index group k) seats ≡ Some (slice_index slots k)

-- those that are pinned
abbrev pub SlotsFit : List SeatState → List ℕ → List ℕ → Phase → Type 0
SlotsFit seats group slots Open = AreInSlots seats group slots 0
SlotsFit seats group slots (Staging i) = AreInSlots seats group slots 0
SlotsFit seats group slots (Installing i) = AreInSlots seats group slots i
SlotsFit seats group slots Halted = Unit {0}

pub record HasSlots (seats : List SeatState) (group slots : List ℕ) (phase : Phase) : Type 0 where
  pub count : length slots ≡ length group
  pub fit : SlotsFit seats group slots phase

-- the slots with that of this block, if the group doesn't have the block yet
abbrev pub slots_with : List ℕ → ℕ → List ℕ → ℕ → List ℕ
slots_with group b slots slot = if has group b then slots else slots ++ slot ∷ []

-- what holds of every log, with the slots beside its group
pub record IsSlottedLog (disk : List (List ℕ)) (seats : List SeatState) (sizes : Super) (group slots : List ℕ) (members : List (Option ℕ))
    (phase : Phase) : Type 0 where
  pub log : IsSoundLog disk seats sizes group members phase
  pub placed : HasSlots seats group slots phase

-- What each operation makes of the blocks as they are seen.
use Rattle.std.specs.Prelude.{◌≡◌, ◌==◌, ℕ, List, Option, Some, None, if◌then◌else◌}
use Rattle.fs_machine.specs.Vocabulary.{IsOutsideLog, seen_in}
use Rattle.fs_machine.specs.LogPart.{LogPart, Outside}
use Rattle.fs_machine.specs.Steps.{State, Op, Put, exec}
use Rattle.fs_machine.specs.Premises.{May, Honest}
use Rattle.fs_machine.specs.Whole.{IsWholeLog, After}

-- a block as it is seen
abbrev pub seen_of : LogPart → ℕ → List ℕ
seen_of l b = seen_in l.contents l.seats b

-- a block that is put with these bytes is seen so from then on, and all others as before
abbrev pub seen_with : ℕ → Option (List ℕ) → (ℕ → List ℕ) → ℕ → List ℕ
seen_with b None seen k = seen k
seen_with b (Some bytes) seen k = if k == b then bytes else seen k

abbrev pub seen_after : Op → (ℕ → List ℕ) → ℕ → List ℕ
seen_after (Put b change) seen = seen_with b change seen
seen_after op seen = seen

-- Nothing else that an operation makes is seen outside the log, also if the device fails.
abbrev pub ShowsItsPuts : Type 0
ShowsItsPuts = (h : ℕ) (x : Outside) (op : Op) (s : State) → IsWholeLog s.log → May h op s → Honest h op s x
    → After (λ t. (k : ℕ) → IsOutsideLog s.log.sizes k → seen_of t.log k ≡ seen_after op (seen_of s.log) k) (exec h x op s)

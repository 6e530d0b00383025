-- An operation waits only when it may.
use Rattle.std.specs.Prelude.{◌≡◌, ◌≤◌, ℕ}
use Rattle.fs_machine.specs.Vocabulary.{Waits}
use Rattle.fs_machine.specs.Soundness.{IsSoundTables}
use Rattle.fs_machine.specs.Tables.{TablesState, owed, references_of}
use Rattle.fs_machine.specs.LogPart.{Outside}
use Rattle.fs_machine.specs.Steps.{State, Op, exec}
use Rattle.fs_machine.specs.Premises.{May, MayWait}
use Rattle.fs_machine.specs.Whole.{IsWholeLog}

-- each reference that an open file or a current directory has is counted
abbrev pub IsCounted : TablesState → Type 0
IsCounted t = (n : ℕ) → owed n t ≤ references_of n t

-- An operation waits only for what another hart has in its hand, or for the log.
abbrev pub WaitsWhereItMay : Type 0
WaitsWhereItMay = (h : ℕ) (x : Outside) (op : Op) (s : State) → IsWholeLog s.log → IsSoundTables s.tables → IsCounted s.tables → May h op s
    → exec h x op s ≡ Waits → MayWait h op s

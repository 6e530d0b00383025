-- What always holds of the log, and that each operation keeps it.
use Rattle.fs_machine.specs.Vocabulary.{IsWhole, ExecResult, Waits, Ran, Stops}
use Rattle.std.specs.Prelude.{ℕ}
use Rattle.fs_machine.specs.LogPart.{LogPart, Outside}
use Rattle.fs_machine.specs.Steps.{State, Op, exec}
use Rattle.fs_machine.specs.Premises.{May, Honest}

-- the cache is sound, and the log
abbrev pub IsWholeLog : LogPart → Type 0
IsWholeLog l = IsWhole l.contents l.seats l.sizes l.group l.members l.phase

-- the state after an operation, if it ran or stopped the world
abbrev pub After : {A S : Type 0} → (S → Type 0) → ExecResult A S → Type 0
After P Waits = Unit {0}
After P (Ran a s) = P s
After P (Stops s) = P s

-- every operation keeps it, if it may be made, also if the device fails at it
abbrev pub KeepsWhole : Type 0
KeepsWhole = (h : ℕ) (x : Outside) (op : Op) (s : State) → IsWholeLog s.log → May h op s → Honest h op s x
    → After (λ t. IsWholeLog t.log) (exec h x op s)

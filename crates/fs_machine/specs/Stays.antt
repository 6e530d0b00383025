-- What else is in a hart's hand stays so while the hart makes a step. Each of these is for the hart's buffers, by IsOwn, and for
-- its inodes' locks, by IsOwnInode.
use Rattle.std.specs.Prelude.{◌≢◌, ℕ}
use Rattle.fs_machine.specs.Vocabulary.{GuardState, Stepped}
use Rattle.atomic_programs.specs.Machines.{RestOrResult}
use Rattle.fs_machine.specs.declared.kind.Kind.{Kind}
use Rattle.fs_machine.specs.Steps.{State}

-- everything that it had
abbrev pub LeavesAll : {V : Type 0} → (ℕ → GuardState V → State → Type 0) → State → State → Type 0
LeavesAll {V} Own old new = (k : ℕ) (held : GuardState V) → Own k held old → Own k held new

-- all but what it had of this number
abbrev pub LeavesAllBut : {V : Type 0} → ℕ → (ℕ → GuardState V → State → Type 0) → State → State → Type 0
LeavesAllBut {V} n Own old new = (k : ℕ) (held : GuardState V) → Own k held old → k ≢ n → Own k held new

-- it had nothing of this number
abbrev pub HasNone : {V : Type 0} → ℕ → (ℕ → GuardState V → State → Type 0) → State → Type 0
HasNone {V} n Own s = (k : ℕ) (held : GuardState V) → Own k held s → k ≢ n

-- all that a machine hasn't got itself, and it doesn't come to have it: neither the machine that is left nor its result
abbrev pub LeavesApart : {V M R : Type 0} → (ℕ → M → Type 0) → (ℕ → R → Type 0) → (ℕ → GuardState V → State → Type 0) → M → Stepped M R Kind
    → State → State → Type 0
LeavesApart {V} IsApart EndsApart Own self result old new =
    (k : ℕ) (held : GuardState V) → Own k held old → IsApart k self → Own k held new × RestOrResult (IsApart k) (EndsApart k) result

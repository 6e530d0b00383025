-- Machines over the operations: what a step of one says.
use Rattle.std.specs.Prelude.{◌≡◌, ◌⊎◌, ℕ}
use Rattle.fs_machine.specs.Vocabulary.{Prog, advance, asks, OfNext, moved_to, answered, Stepped, Done, Stopped}
use Rattle.atomic_programs.specs.declared.machines.Stepped.TheVariants.{Waits, Ran}
use Rattle.fs_machine.specs.declared.kind.Kind.{Kind}
use Rattle.fs_machine.specs.LogPart.{Outside, Passes, Fails}
use Rattle.fs_machine.specs.Steps.{State, Op, Answer, exec, kind_of}
use Rattle.fs_machine.specs.Premises.{May, Honest}

-- what a machine represents: a program of operations without marks
abbrev pub P : Type 0 → Type 0
P A = Prog Op Answer ⊥ A

-- what the device answered in a step that left this state
abbrev pub said_in : {M R : Type 0} → Stepped M R Kind → State → Outside
said_in result s = answered (Fails s.log.contents) Passes result

-- the program's next operation may be made
abbrev pub MayNext : {A : Type 0} → ℕ → P A → State → Type 0
MayNext hart p s = OfNext (May hart) (asks p) s

-- the step is the program's next operation
abbrev pub Moves : {M R A : Type 0} → (M → P A) → (R → A) → ℕ → M → Stepped M R Kind → State → State → Type 0
Moves program value hart self result old new =
    advance kind_of (exec hart (said_in result new)) (program self) old ≡ moved_to program value result new

-- and what the device answered to it is possible
abbrev pub Answers : {M R A : Type 0} → (M → P A) → ℕ → M → Stepped M R Kind → State → State → Type 0
Answers program hart self result old new = OfNext (λ op s. Honest hart op s (said_in result new)) (asks (program self)) old

-- at most one call of the device was made
abbrev pub CallsOnce : {D : Type 0} → (D → D → Type 0) → D → D → Type 0
CallsOnce Called old new = (new ≡ old) ⊎ Called old new

-- a nested machine's step, as one of the machine that contains it: by its states there, and when it is done
abbrev pub within : {M R N S K : Type 0} → (M → N) → (R → N) → Stepped M R K → Stepped N S K
within f g (Waits m) = Waits (f m)
within f g (Ran m kind) = Ran (f m) kind
within f g (Done r kind) = Ran (g r) kind
within f g (Stopped m) = Stopped (f m)

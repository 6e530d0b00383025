-- Machines in code: each value represents the rest of its program, without marks.
use Rattle.std.specs.Prelude.{◌≡◌, ℕ, Option, Some, None, List, get_or}
use Rattle.atomic_programs.specs.Prog.{Prog, Ret, ExecResult, Waits as ItWaits, Ran as ItRan, Stops, OperationResult, StillWaits, WentOn, Broke}
use Rattle.atomic_programs.specs.declared.machines.Stepped.{Stepped}
use Rattle.atomic_programs.specs.declared.machines.Stepped.TheVariants.{Waits, Ran, Done, Stopped}
use Rattle.atomic_programs.specs.declared.machines.SteppedInPlace.{SteppedInPlace}
use Rattle.atomic_programs.specs.declared.machines.SteppedInPlace.TheVariants as came

-- the result of a machine's step, as a program; its result represents what the program returns
abbrev pub moved_to : {M R K A S Op : Type 0} {Answer : Op → Type 0} → (M → Prog Op Answer ⊥ A) → (R → A) → Stepped M R K → S
    → OperationResult K (Prog Op Answer ⊥ A) S
moved_to program result (Waits m) s = StillWaits
moved_to program result (Ran m kind) s = WentOn kind (program m) s
moved_to program result (Done a kind) s = WentOn kind (Ret (result a)) s
moved_to program result (Stopped m) s = Broke s

-- a step that waits changes nothing, and after one that stopped the world the machine represents the same program
abbrev pub Still : {M R K S T : Type 0} → (M → T) → Stepped M R K → M → S → S → Type 0
Still program (Waits m) self old new = (program m ≡ program self) × (new ≡ old)
Still program (Ran m kind) self old new = Unit {0}
Still program (Done a kind) self old new = Unit {0}
Still program (Stopped m) self old new = program m ≡ program self

-- the machine that is left, or its result
abbrev pub RestOrResult : {M R K : Type 0} → (M → Type 0) → (R → Type 0) → Stepped M R K → Type 0
RestOrResult Fits Ends (Waits m) = Fits m
RestOrResult Fits Ends (Ran m kind) = Fits m
RestOrResult Fits Ends (Done a kind) = Ends a
RestOrResult Fits Ends (Stopped m) = Fits m

-- what the outside answered: this if the step stopped the world, and that otherwise
abbrev pub answered : {M R K X : Type 0} → X → X → Stepped M R K → X
answered broke passed (Waits m) = passed
answered broke passed (Ran m kind) = passed
answered broke passed (Done a kind) = passed
answered broke passed (Stopped m) = broke

-- ---- in its place

-- a step that left this of a machine in its place, as one that hands it on
abbrev pub stepped_at : {M R K : Type 0} → M → SteppedInPlace R K → Stepped M R K
stepped_at m came.Waits = Waits m
stepped_at m (came.Ran kind) = Ran m kind
stepped_at m (came.Done a kind) = Done a kind
stepped_at m came.Stopped = Stopped m

-- this is so if the machine is done
abbrev pub OnDone : {R K : Type 0} → SteppedInPlace R K → Type 0 → Type 0
OnDone came.Waits P = Unit {0}
OnDone (came.Ran kind) P = Unit {0}
OnDone (came.Done a kind) P = P
OnDone came.Stopped P = Unit {0}

-- ---- operations and tables

-- a call of an operation, by its Option: None if it waits
abbrev pub or_waits : {A S : Type 0} → Option A → S → ExecResult A S
or_waits None s = ItWaits
or_waits (Some a) s = ItRan a s

-- the same, if None says that it stopped the world
abbrev pub or_stops : {A S : Type 0} → Option A → S → ExecResult A S
or_stops None s = Stops s
or_stops (Some a) s = ItRan a s

-- the programs of a table of machines
abbrev pub program_at : {M T : Type 0} → (M → T) → Option M → Option T
program_at program None = None
program_at program (Some m) = Some (program m)

abbrev pub programs_in : {M T : Type 0} → (M → T) → List (Option M) → ℕ → Option T
programs_in program calls h = program_at program (get_or calls h None)

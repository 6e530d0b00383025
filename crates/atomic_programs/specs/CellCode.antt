-- The programs that the example's machines represent, what its world is as programs, and what it keeps.
use Rattle.std.specs.Prelude.{◌≡◌, ℕ, zero, suc, Bool, Option, Some, None, List, [], ◌∷◌, nat_lt}
use Rattle.atomic_programs.specs.Basics.{Prog, bind, once, unmarked, plain, Event as EventOf, Start as StartOf, Step as StepOf, Outcome as OutcomeOf, Started as WasStarted, Refused as WasRefused, WasIdle, DidWait, DidRun, DidEnd, DidStop, WasStopped, Code, Plain, answered}
use Rattle.atomic_programs.specs.Tables.{PlaceFits, plain_at, IsKept}
use Rattle.atomic_programs.specs.Cell as cell
use Rattle.atomic_programs.specs.Cell.{Cell, Outside, Passes, Fails, opened, stored_and, dropped, exec, may, honest, begin_if, swaps}
use Rattle.atomic_programs.specs.declared.machines.Stepped.{Stepped}
use Rattle.atomic_programs.specs.declared.cell.CellKind.{CellKind}
use Rattle.atomic_programs.specs.declared.cell.CellKind.TheVariants as KindIs
use Rattle.atomic_programs.specs.declared.cell.Open.{Open}
use Rattle.atomic_programs.specs.declared.cell.Open.TheVariants as OpenAt
use Rattle.atomic_programs.specs.declared.cell.Machine.{Machine}
use Rattle.atomic_programs.specs.declared.cell.Machine.TheVariants as MachineAt
use Rattle.atomic_programs.specs.declared.cell.Call.{Call}
use Rattle.atomic_programs.specs.declared.cell.Call.TheVariants as CallIs
use Rattle.atomic_programs.specs.declared.cell.Refusal.{Refusal}
use Rattle.atomic_programs.specs.declared.cell.Refusal.TheVariants as RefusalIs
use Rattle.atomic_programs.specs.declared.cell.Event.{Event}
use Rattle.atomic_programs.specs.declared.cell.Event.TheVariants as EventIs
use Rattle.atomic_programs.specs.declared.cell.Outcome.{Outcome}
use Rattle.atomic_programs.specs.declared.cell.Outcome.TheVariants as OutcomeIs

-- the kind of a fetch is given by its answer: of zero or of another number
abbrev pub kind_fetched : ℕ → CellKind
kind_fetched zero = KindIs.FetchZero
kind_fetched (suc n) = KindIs.Fetch

abbrev pub kind_of : (op : cell.Op) → cell.Answer op → CellKind
kind_of cell.Take a = KindIs.Take
kind_of cell.Fetch a = kind_fetched a
kind_of (cell.Store n) a = KindIs.Store
kind_of cell.Drop a = KindIs.Drop

-- what a machine is at, as a program without marks
abbrev pub P : Type 0 → Type 0
P A = Prog cell.Op cell.Answer ⊥ A

abbrev pub open_of : Open → P ℕ
open_of OpenAt.Take = plain opened
open_of (OpenAt.Fetch key) = once cell.Fetch unmarked

-- an open is the same program in a swap and in a look, which marks its fetch
abbrev pub machine_of : Machine → P ℕ
machine_of (MachineAt.SwapOpen n first) = bind (open_of first) (λ x. plain (stored_and n x))
machine_of (MachineAt.Store n old key) = plain (stored_and n old)
machine_of (MachineAt.LookOpen first) = bind (open_of first) (λ x. plain (dropped x))
machine_of (MachineAt.Drop old key) = plain (dropped old)

-- the key that a machine has is its hart's
abbrev pub OpenFits : ℕ → Open → Type 0
OpenFits h OpenAt.Take = Unit {0}
OpenFits h (OpenAt.Fetch key) = key ≡ h

abbrev pub MachineFits : ℕ → Machine → Type 0
MachineFits h (MachineAt.SwapOpen n first) = OpenFits h first
MachineFits h (MachineAt.Store n old key) = key ≡ h
MachineFits h (MachineAt.LookOpen first) = OpenFits h first
MachineFits h (MachineAt.Drop old key) = key ≡ h

abbrev pub HartFits : ℕ → Option Machine → Type 0
HartFits = PlaceFits MachineFits

-- what the device answered in a machine's step, which left this cell
abbrev pub said_in : {M R K : Type 0} → Stepped M R K → Cell → Outside
said_in r c = answered (Fails c.count) Passes r

-- the same, by the result of a call of the device
abbrev pub said_by : {A : Type 0} → Option A → Cell → Outside
said_by None c = Fails c.count
said_by (Some a) c = Passes

-- the same, by the step's outcome
abbrev pub said : Outcome → Cell → Outside
said OutcomeIs.Started c = Passes
said (OutcomeIs.Refused why) c = Passes
said OutcomeIs.Idle c = Passes
said OutcomeIs.Waits c = Passes
said (OutcomeIs.Ran kind) c = Passes
said (OutcomeIs.Done reply) c = Passes
said OutcomeIs.Stops c = Fails c.count
said OutcomeIs.Stopped c = Passes

abbrev pub call_of : Call → cell.Call
call_of (CallIs.Swap n) = cell.Swap n
call_of CallIs.Look = cell.Look

abbrev pub refusal_of : Refusal → cell.Refusal
refusal_of RefusalIs.Busy = cell.Busy
refusal_of RefusalIs.NoSuchHart = cell.NoSuchHart
refusal_of RefusalIs.TooLarge = cell.TooLarge

-- what an event asks
abbrev pub event_of : Event → EventOf cell.Call (Unit {0})
event_of (EventIs.Start h call) = StartOf h (call_of call)
event_of (EventIs.Step h) = StepOf h tt

abbrev pub events_of : List Event → List (EventOf cell.Call (Unit {0}))
events_of [] = []
events_of (e ∷ es) = event_of e ∷ events_of es

abbrev pub outcome_of : Outcome → OutcomeOf CellKind ℕ cell.Refusal
outcome_of OutcomeIs.Started = WasStarted
outcome_of (OutcomeIs.Refused why) = WasRefused (refusal_of why)
outcome_of OutcomeIs.Idle = WasIdle
outcome_of OutcomeIs.Waits = DidWait
outcome_of (OutcomeIs.Ran kind) = DidRun kind
outcome_of (OutcomeIs.Done reply) = DidEnd reply
outcome_of OutcomeIs.Stops = DidStop
outcome_of OutcomeIs.Stopped = WasStopped

abbrev pub outcomes_of : List Outcome → List (OutcomeOf CellKind ℕ cell.Refusal)
outcomes_of [] = []
outcomes_of (o ∷ os) = outcome_of o ∷ outcomes_of os

-- the cell is all that the code has
abbrev pub code : Code swaps
code =
    record {
      Shared = Cell;
      Kind = CellKind;
      shared = λ w. w.cell;
      kind = kind_of;
      exec = exec;
      may = may;
      honest = honest;
      begin = λ h call busy s. begin_if (nat_lt h 8) (cell.fits call) s;
    }

-- what a world is to its callers
pub record Harts : Type 0 where
  pub shared : Cell
  pub stopped : Bool
  pub calls : List (Option Machine)

-- the same as programs over the cell
abbrev pub plain_of : Harts → Plain swaps code
plain_of w = plain_at swaps code machine_of w.shared w.stopped w.calls

-- what every world keeps
abbrev pub IsWorld : Harts → Type 0
IsWorld w = IsKept swaps code machine_of MachineFits 8 w.shared w.stopped w.calls

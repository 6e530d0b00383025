-- The example's code is the theory's.
use Rattle.atomic_programs.proofs.Vocabulary.{◌≡◌, ℕ, Option, Some, Bool, true, false, List, [], ◌∷◌, ◌++◌, refl, ap, nat_lt, ExecResult, Waits, Ran, Stops, exec_result_in, Began, DidRun, IsCode, began_in, hart_moved, Cell, Refusal, with_value, begin_if, fits, exec, swaps, machine_of, event_of, events_of, outcome_of, outcomes_of, code, CellKind}
use Rattle.atomic_programs.specs.Calls as calls
use Rattle.atomic_programs.specs.Cell.{World}
use Rattle.atomic_programs.specs.Cell as cell
use Rattle.atomic_programs.specs.declared.cell.Open.TheVariants as OpenAt
use Rattle.atomic_programs.specs.declared.cell.Machine.{Machine}
use Rattle.atomic_programs.specs.declared.cell.Machine.TheVariants as MachineAt
use Rattle.atomic_programs.specs.declared.cell.Event.{Event}
use Rattle.atomic_programs.specs.declared.cell.Outcome.{Outcome}

-- the code's operations are the theory's
pub is_code : IsCode swaps code
is_code =
    record {
      goes = λ h x op m w. goes m w.value (exec h x op w.cell);
      may = λ h op w m. m;
      honest = λ h op w x t. t;
      starts = λ h call busy w. starts (nat_lt h 8) (fits call) w;
    }
  where
    goes : {A : Type 0} (m : A → Option cell.Step) (t : ℕ) (x : ExecResult A Cell) → x ≡ exec_result_in (λ (w : World). w.cell) (with_value m t x)
    goes m t Waits = refl
    goes m t (Ran a c) = refl
    goes m t (Stops c) = refl

    starts : (b c : Bool) (w : World) → ◌≡◌ {A = Began Refusal Cell} (begin_if b c w.cell) (began_in (λ (w : World). w.cell) (begin_if b c w))
    starts false c w = refl
    starts true false w = refl
    starts true true w = refl

-- a machine that is left has an operation to make
pub goes_on : (m : Machine) (kind : CellKind) (c : Cell) → hart_moved swaps code false kind (machine_of m) c ≡ record { came = DidRun kind; left = Some (machine_of m); shared = c; stopped = false }
goes_on (MachineAt.SwapOpen n OpenAt.Take) kind c = refl
goes_on (MachineAt.SwapOpen n (OpenAt.Fetch key)) kind c = refl
goes_on (MachineAt.Store n old key) kind c = refl
goes_on (MachineAt.LookOpen OpenAt.Take) kind c = refl
goes_on (MachineAt.LookOpen (OpenAt.Fetch key)) kind c = refl
goes_on (MachineAt.Drop old key) kind c = refl

pub events_more : (es : List Event) (e : Event) → events_of (es ++ e ∷ []) ≡ events_of es ++ event_of e ∷ []
events_more [] e = refl
events_more (x ∷ es) e = ap (λ (z : List (calls.Event cell.Call (Unit {0}))). event_of x ∷ z) (events_more es e)

pub outcomes_more : (os : List Outcome) (o : Outcome) → outcomes_of (os ++ o ∷ []) ≡ outcomes_of os ++ outcome_of o ∷ []
outcomes_more [] o = refl
outcomes_more (x ∷ os) o = ap (λ (z : List (calls.Outcome CellKind ℕ Refusal)). outcome_of x ∷ z) (outcomes_more os o)

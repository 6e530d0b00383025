-- Calls over a machine above, run below.
use Rattle.std.specs.Prelude.{◌≡◌, ◌≢◌, ◌⊎◌, ℕ, Bool, true, false, Option}
use Rattle.atomic_programs.specs.Prog.{ExecResult, exec_result_in}
use Rattle.atomic_programs.specs.Calls.{Theory, Began, Refuses, Begins}
use Rattle.atomic_programs.specs.Plain.{Code, began_in}
use Rattle.atomic_programs.specs.Joined.{LowerLayer, Both, joined, Handlers, lowered, Atomic}

-- A start below: it decides, on what the code has, whether the call is begun, and may reserve something for it.
abbrev pub Starts : (T : Theory) → LowerLayer T.M.World → Type 0
Starts T R = ℕ → T.Call → (ℕ → Bool) → R.World → Began T.Refusal R.World

-- the world after a start
abbrev pub began_to : {Refusal G : Type 0} → G → Began Refusal G → G
began_to g (Refuses why) = g
began_to g (Begins u) = u

-- the result of a start below, with this world above
abbrev pub began_both : {Refusal S G : Type 0} → G → Began Refusal S → Began Refusal (Both S G)
began_both g (Refuses why) = Refuses why
began_both g (Begins r) = Begins (record { real = r; seen = g })

abbrev pub lowered_calls : (T : Theory) (R : LowerLayer T.M.World) → Handlers T.M R → Starts T R → Theory
lowered_calls T R handler begin =
    record {
      M = joined T.M R;
      Call = T.Call;
      Reply = T.Reply;
      Refusal = T.Refusal;
      start = λ h call busy w. began_both (began_to w.seen (T.start h call busy w.seen)) (begin h call busy w.real);
      busy = T.busy;
      program = λ call. lowered T.M R handler R.none (T.program call);
      Written = T.Written;
      WrittenSoFar = T.WrittenSoFar;
      limit = T.limit;
    }

-- A start that made s of r below begins above too, and made u of g there: what it reserves, it reserves in both.
pub record BeginsBoth (T : Theory) (R : LowerLayer T.M.World) (h : ℕ) (call : T.Call) (busy : ℕ → Bool) (r s : R.World)
    (g : T.M.World) : Type 0 where
  pub above : T.M.World
  pub begins : T.start h call busy g ≡ Begins above
  pub shows : R.Shows r g → R.Shows s above
  pub halted : R.Halted r g → R.Halted s above
  -- it takes nothing from a call under way
  pub kept : (other : ℕ) → other ≢ h → busy other ≡ true → R.Same other r s
  -- a hart without a call has what a hart has between two operations, and nothing in hand
  pub rests : (other : ℕ) → busy other ≡ false → R.Base other s above R.none

-- what a project shows of the starts below
abbrev pub StartsBoth : (T : Theory) (R : LowerLayer T.M.World) → Starts T R → Type 0
StartsBoth T R begin =
    (h : ℕ) (call : T.Call) (busy : ℕ → Bool) (r s : R.World) (g : T.M.World) → R.Shows r g ⊎ R.Halted r g → T.M.Inv g
    → ((other : ℕ) → busy other ≡ false → R.Base other r g R.none × T.M.Idle other g) → busy h ≡ false
    → begin h call busy r ≡ Begins s → BeginsBoth T R h call busy r s g

-- in some world, whichever harts have calls, a start by this one begins its call
abbrev pub CanBegin : (T : Theory) (R : LowerLayer T.M.World) → Starts T R → ℕ → Type 0
CanBegin T R begin h = (call : T.Call) × (busy : ℕ → Bool) × (r : R.World) × (s : R.World) × (begin h call busy r ≡ Begins s)

-- the program of each operation, of each hart that can have a call, acts at one moment
abbrev pub AllAtomic : (T : Theory) (R : LowerLayer T.M.World) → Handlers T.M R → Starts T R → Type 1
AllAtomic T R handler begin =
    (h : ℕ) → CanBegin T R begin h → (op : T.M.Op) (m : T.M.Answer op → Option T.M.Mark) → Atomic T.M R handler h op m

-- What the code has of the world below, if that has more parts for the proof alone; and what operations and starts
-- make of it.
pub record Part (T : Theory) (R : LowerLayer T.M.World) : Type 1 where
  pub Shared : Type 0
  pub of : R.World → Shared
  pub exec : ℕ → R.Outside → (op : R.Op) → Shared → ExecResult (R.Answer op) Shared
  pub may : ℕ → R.Op → Shared → Type 0
  pub honest : ℕ → R.Op → Shared → R.Outside → Type 0
  pub begin : ℕ → T.Call → (ℕ → Bool) → Shared → Began T.Refusal Shared

-- what the other parts are changes nothing of it
pub record IsPart (T : Theory) (R : LowerLayer T.M.World) (begin : Starts T R) (part : Part T R) : Type 0 where
  pub goes : (h : ℕ) (x : R.Outside) (op : R.Op) (w : R.World) → part.exec h x op (part.of w) ≡ exec_result_in part.of (R.exec h x op w)
  pub may : (h : ℕ) (op : R.Op) (w : R.World) → R.May h op w → part.may h op (part.of w)
  pub honest : (h : ℕ) (op : R.Op) (w : R.World) (x : R.Outside) → part.honest h op (part.of w) x → R.Honest h op w x
  pub starts : (h : ℕ) (call : T.Call) (busy : ℕ → Bool) (w : R.World)
      → part.begin h call busy (part.of w) ≡ began_in part.of (begin h call busy w)

-- the code of the lowered calls; the operation below, with its answer, gives the kind of a step
abbrev pub code_part : (T : Theory) (R : LowerLayer T.M.World) (handler : Handlers T.M R) (begin : Starts T R) (part : Part T R)
    (Kind : Type 0) → ((op : R.Op) → R.Answer op → Kind) → Code (lowered_calls T R handler begin)
code_part T R handler begin part Kind kind =
    record {
      Shared = part.Shared;
      Kind = Kind;
      shared = λ w. part.of w.real;
      kind = kind;
      exec = part.exec;
      may = part.may;
      honest = part.honest;
      begin = part.begin;
    }

-- the world below alone, all of it
abbrev pub all_below : (T : Theory) (R : LowerLayer T.M.World) → Starts T R → Part T R
all_below T R begin = record { Shared = R.World; of = λ w. w; exec = R.exec; may = R.May; honest = R.Honest; begin = begin }

abbrev pub code_below : (T : Theory) (R : LowerLayer T.M.World) (handler : Handlers T.M R) (begin : Starts T R) (Kind : Type 0)
    → ((op : R.Op) → R.Answer op → Kind) → Code (lowered_calls T R handler begin)
code_below T R handler begin Kind kind = code_part T R handler begin (all_below T R begin) Kind kind

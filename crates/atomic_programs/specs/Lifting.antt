-- Single programs above, and the calls of a theory, that run below as they do above.
use Rattle.std.specs.Prelude.{◌≡◌, ℕ, Bool, List, Option}
use Rattle.atomic_programs.specs.Basics.{Ret, Do, ExecResult, Waits, Ran, Stops, Machine, P, Wp, Theory, Begins, LowerLayer, Both, joined, Handlers, lowered, AtEnd, Lasts, Starts}

-- each operation that the program makes, whatever the ones before it answer, is so, with its mark
abbrev pub Uses : (U : Machine) → ((op : U.Op) → (U.Answer op → Option U.Mark) → Type 1) → {A : Type 0} → P U A → Type 1
Uses U Is (Ret a) = Unit {1}
Uses U Is (Do op m k) = Is op m × ((a : U.Answer op) → Uses U Is (k a))

-- Whatever the program is shown to do above, it does below, in as many steps, by a hart with this in hand, from worlds of which this is
-- known.
abbrev pub Lifts : (U : Machine) (R : LowerLayer U.World) → Handlers U R → ℕ → R.Carry → (Both R.World U.World → Type 0)
    → {A : Type 0} → P U A → Type 1
Lifts U R handler h c From {A} p =
    (B : List U.Step → Type 0) (Q : A → List U.Step → U.World → Type 0) → Lasts U h B Q
    → (n : ℕ) (es : List U.Step) (w : Both R.World U.World) → From w → Wp U h B Q p n es w.seen → R.Base h w.real w.seen c → U.Inv w.seen
    → Wp (joined U R) h B (AtEnd U R h Q) (lowered U R handler c p) n es w

-- in some world, whichever harts have calls, this hart's start begins this call
abbrev pub BeginsSome : (T : Theory) (R : LowerLayer T.M.World) → Starts T R → ℕ → T.Call → Type 0
BeginsSome T R begin h call = (busy : ℕ → Bool) × (r : R.World) × (s : R.World) × (begin h call busy r ≡ Begins s)

-- A hart's call was started, and none of its operations was made: the hart was idle above before, and the start made
-- this of that world.
pub record IsStarted (T : Theory) (R : LowerLayer T.M.World) (h : ℕ) (call : T.Call) (w : Both R.World T.M.World) : Type 0 where
  pub shows : R.Shows w.real w.seen
  pub busy : ℕ → Bool
  pub before : T.M.World
  pub idle : T.M.Idle h before
  pub begins : T.start h call busy before ≡ Begins w.seen

-- the program of each call that can begin does so from its start
abbrev pub AllLift : (T : Theory) (R : LowerLayer T.M.World) → Handlers T.M R → Starts T R → Type 1
AllLift T R handler begin =
    (h : ℕ) (call : T.Call) → BeginsSome T R begin h call → Lifts T.M R handler h R.none (IsStarted T R h call) (T.program call)

-- A layer in which a hart has this besides, in the world above, between two operations above.
abbrev pub with_more : {Above : Type 0} → LowerLayer Above → (ℕ → Above → Type 0) → LowerLayer Above
with_more R More = record R { Base = λ h r w c. R.Base h r w c × More h w }

-- what holds of the world after an operation, if it ran
abbrev pub IfRan : {A S : Type 0} → (S → Type 0) → ExecResult A S → Type 0
IfRan Is Waits = Unit {0}
IfRan Is (Ran a s) = Is s
IfRan Is (Stops s) = Unit {0}

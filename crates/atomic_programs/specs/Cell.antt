-- An example: one number that a lock guards, on a device that may fail. The number is a byte.
use Rattle.std.specs.Prelude.{◌≡◌, ◌≢◌, ◌⊎◌, ◌<◌, ℕ, Bool, true, false, nat_eq, nat_lt, if◌then◌else◌, Option, Some, None, List, [], ◌∷◌}
use Rattle.atomic_programs.specs.Basics.{Prog, Ret, Do, bind, once, unmarked, marked, ExecResult, Waits, Ran, Stops, Machine, one_more_fault, Theory, Began, Refuses, Begins, BeginsWhole}

-- what the code has: who has the lock, the number, on the device, and how often the device has failed
pub record Cell : Type 0 where
  pub holder : Option ℕ
  pub count : ℕ
  pub faults : ℕ

pub data Op : Type 0 where
  Take : Op
  Fetch : Op
  Store : ℕ → Op
  Drop : Op

abbrev pub Answer : Op → Type 0
Answer Take = Unit {0}
Answer Fetch = ℕ
Answer (Store n) = Unit {0}
Answer Drop = Unit {0}

abbrev pub take_if : ℕ → Cell → Option ℕ → ExecResult (Unit {0}) Cell
take_if h c None = Ran tt (record c { holder = Some h })
take_if h c (Some g) = Waits

-- what the device answers to a read or a write: it passes, or fails and leaves this number
pub data Outside : Type 0 where
  Passes : Outside
  Fails : ℕ → Outside

-- a read that fails leaves the number
abbrev pub LeavesIt : ℕ → Outside → Type 0
LeavesIt old Passes = Unit {0}
LeavesIt old (Fails k) = k ≡ old

-- a write that fails leaves the old number or the new one
abbrev pub LeavesOne : ℕ → ℕ → Outside → Type 0
LeavesOne old new Passes = Unit {0}
LeavesOne old new (Fails k) = (k ≡ old) ⊎ (k ≡ new)

abbrev pub honest : ℕ → Op → Cell → Outside → Type 0
honest h Take c x = Unit {0}
honest h Fetch c x = LeavesIt c.count x
honest h (Store n) c x = LeavesOne c.count n x
honest h Drop c x = Unit {0}

-- All but a take need the lock. A fetch answers a byte, and the device takes no number that is none.
abbrev pub may : ℕ → Op → Cell → Type 0
may h Take c = Unit {0}
may h Fetch c = (c.holder ≡ Some h) × (c.count < 256)
may h (Store n) c = (c.holder ≡ Some h) × (n < 256)
may h Drop c = c.holder ≡ Some h

-- the cell after the device failed and left this number
abbrev pub failed : Cell → ℕ → Cell
failed c k = record c { count = k; faults = one_more_fault c.faults }

abbrev pub fetch_if : Cell → Outside → ExecResult ℕ Cell
fetch_if c Passes = Ran c.count c
fetch_if c (Fails k) = Stops (failed c k)

abbrev pub store_if : ℕ → Cell → Outside → ExecResult (Unit {0}) Cell
store_if n c Passes = Ran tt (record c { count = n })
store_if n c (Fails k) = Stops (failed c k)

-- what an operation makes of the cell in hart h's hand, if the device answers so
abbrev pub exec : ℕ → Outside → (op : Op) → Cell → ExecResult (Answer op) Cell
exec h x Take c = take_if h c c.holder
exec h x Fetch c = fetch_if c x
exec h x (Store n) c = store_if n c x
exec h x Drop c = Ran tt (record c { holder = None })

-- a step of the number alone: it is swapped for another one, or seen
pub data Step : Type 0 where
  Swapped : ℕ → ℕ → Step
  Saw : ℕ → Step

abbrev pub Happens : ℕ → ℕ → Step → ℕ → Type 0
Happens t h (Swapped n old) u = (old ≡ t) × (u ≡ n)
Happens t h (Saw x) u = (x ≡ t) × (u ≡ t)

-- with the number that the steps have made, for the proof alone
pub record World : Type 0 where
  pub cell : Cell
  pub value : ℕ

abbrev pub acted : Option Step → ℕ → ℕ
acted None t = t
acted (Some (Swapped n old)) t = n
acted (Some (Saw x)) t = t

abbrev pub with_value : {A : Type 0} → (A → Option Step) → ℕ → ExecResult A Cell → ExecResult A World
with_value m t Waits = Waits
with_value m t (Ran a c) = Ran a (record { cell = c; value = acted (m a) t })
with_value m t (Stops c) = Stops (record { cell = c; value = t })

abbrev pub go : ℕ → Outside → (op : Op) → (Answer op → Option Step) → World → ExecResult (Answer op) World
go h x op m w = with_value m w.value (exec h x op w.cell)

abbrev pub placed_by : ℕ → Option Step → List (ℕ × Step)
placed_by h None = []
placed_by h (Some e) = (h, e) ∷ []

abbrev pub if_held : {A : Type 0} → Option ℕ → ℕ → A → Option A
if_held None h x = None
if_held (Some g) h x = if nat_eq g h then Some x else None

-- all that is a hart's: both numbers, if it has the lock
abbrev pub own_of : ℕ → World → Option (ℕ × ℕ)
own_of h w = if_held w.cell.holder h (w.cell.count, w.value)

-- the number is a byte, and if nobody has the lock it is what the steps have made
abbrev pub Inv : World → Type 0
Inv w = (w.cell.count < 256) × (w.cell.holder ≡ None → w.value ≡ w.cell.count)

-- out in another hart's hand
abbrev pub IsOut : ℕ → Option ℕ → Type 0
IsOut h o = (g : ℕ) × (g ≢ h) × (o ≡ Some g)

abbrev pub MayWait : ℕ → Op → World → Type 0
MayWait h Take w = IsOut h w.cell.holder
MayWait h Fetch w = ⊥
MayWait h (Store n) w = ⊥
MayWait h Drop w = ⊥

abbrev pub machine : Machine
machine =
    record {
      Op = Op;
      Answer = Answer;
      Mark = Step;
      Step = Step;
      World = World;
      Tree = ℕ;
      more = λ op. 0;
      Outside = Outside;
      Honest = λ h op w x. honest h op w.cell x;
      May = λ h op w. may h op w.cell;
      go = go;
      places = λ h op a m w. placed_by h m;
      tree = λ w. w.value;
      Takes = Happens;
      Inv = Inv;
      Halted = Inv;
      Others = λ h v xs w. (xs ≡ []) × (own_of h w ≡ own_of h v);
      Idle = λ h w. own_of h w ≡ None;
      MayWait = MayWait;
      Clean = λ w. Unit {0};
    }

pub data Call : Type 0 where
  Swap : ℕ → Call
  Look : Call

-- what a start is refused with
pub data Refusal : Type 0 where
  Busy : Refusal
  NoSuchHart : Refusal
  TooLarge : Refusal

abbrev pub P : Type 0 → Type 0
P A = Prog Op Answer Step A

-- the lock is given back, and this number answered
abbrev pub dropped : ℕ → P ℕ
dropped x = Do Drop unmarked (λ _. Ret x)

-- the lock is taken, and the number fetched
abbrev pub opened : P ℕ
opened = Do Take unmarked (λ _. once Fetch unmarked)

abbrev pub stored_and : ℕ → ℕ → P ℕ
stored_and n x = Do (Store n) (λ _. Some (Swapped n x)) (λ _. dropped x)

abbrev pub program : Call → P ℕ
program (Swap n) = bind opened (stored_and n)
program Look = bind (marked opened (λ x. Some (Saw x))) dropped

abbrev pub IsHistoryOf : Call → List Step → ℕ → Type 0
IsHistoryOf (Swap n) es old = es ≡ Swapped n old ∷ []
IsHistoryOf Look es x = es ≡ Saw x ∷ []

abbrev pub limit_of : Call → ℕ
limit_of (Swap n) = 4
limit_of Look = 3

-- no number is swapped in that is no byte
abbrev pub fits : Call → Bool
fits (Swap n) = nat_lt n 256
fits Look = true

-- there are eight harts
abbrev pub begin_if : {S : Type 0} → Bool → Bool → S → Began Refusal S
begin_if false b s = Refuses NoSuchHart
begin_if true false s = Refuses TooLarge
begin_if true true s = Begins s

abbrev pub swaps : Theory
swaps =
    record {
      M = machine;
      Call = Call;
      Reply = ℕ;
      Refusal = Refusal;
      start = λ h call busy w. begin_if (nat_lt h 8) (fits call) w;
      busy = Busy;
      program = program;
      Written = IsHistoryOf;
      WrittenSoFar = BeginsWhole IsHistoryOf;
      limit = limit_of;
    }

-- a cell at rest
abbrev pub rest : ℕ → ℕ → World
rest x f = record { cell = record { holder = None; count = x; faults = f }; value = x }

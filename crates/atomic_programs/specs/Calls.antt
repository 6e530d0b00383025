-- A machine with its calls, and what a list of events makes of them.
use Rattle.std.specs.Prelude.{◌≡◌, ◌≢◌, ◌⊎◌, ℕ, suc, Bool, true, false, Option, Some, None, nat_eq, if◌then◌else◌, List, [], ◌∷◌, ◌++◌}
use Rattle.atomic_programs.specs.Prog.{Prog, Ret, Do, ExecResult, Waits, Ran, Stops, asks, OfNext}
use Rattle.atomic_programs.specs.Logic.{Machine, P, OpWithAnswer, own, onto, oldest_first, Wp, Laws}

-- the result of a call's start: it is refused, or begun in a world that reserves what the call needs
pub data Began (Refusal World : Type 0) : Type 0 where
  Refuses : Refusal → Began Refusal World
  Begins : World → Began Refusal World

-- Calls over a machine. Each call's program begins with an operation.
pub record Theory : Type 1 where
  pub M : Machine
  pub Call : Type 0
  pub Reply : Type 0
  pub Refusal : Type 0
  -- a start by a hart that has no call under way; it sees which harts have one
  pub start : ℕ → Call → (ℕ → Bool) → M.World → Began Refusal M.World
  -- a start by a hart that has one
  pub busy : Refusal
  pub program : Call → Prog M.Op M.Answer M.Mark Reply
  -- these steps, the oldest first, are the whole sequence of the call, and make this reply
  pub Written : Call → List M.Step → Reply → Type 0
  -- these steps, the oldest first, may be all that a call under way has made
  pub WrittenSoFar : Call → List M.Step → Type 0
  -- the most steps of this call
  pub limit : Call → ℕ

-- these steps, the oldest first, begin a whole sequence of the call, by what is written of whole ones
abbrev pub BeginsWhole : {Call Step Reply : Type 0} → (Call → List Step → Reply → Type 0) → Call → List Step → Type 0
BeginsWhole {Call} {Step} {Reply} Written call es = (rest : List Step) × (reply : Reply) × Written call (es ++ rest) reply

-- these steps, the oldest first, may be all that the call under way has made
abbrev pub IsBeginning : (L : Theory) → L.Call → List L.M.Step → Type 0
IsBeginning L call es = L.WrittenSoFar call es

-- the same of steps in a list with the newest first
abbrev pub Begun : (L : Theory) → L.Call → List L.M.Step → Type 0
Begun L call es = IsBeginning L call (oldest_first es)

-- a call ends with its written steps, and nothing owned
abbrev pub Ends : (L : Theory) → ℕ → L.Call → L.Reply → List L.M.Step → L.M.World → Type 0
Ends L h call reply es w = (L.M.Clean w → L.Written call (oldest_first es) reply) × L.M.Idle h w

-- hart h's call is right, begun in w, of which its start made u; these are the harts that have calls
pub record Right (L : Theory) (h : ℕ) (call : L.Call) (busy : ℕ → Bool) (w u : L.M.World) : Type 0 where
  pub inv : L.M.Inv w → L.M.Inv u
  pub halted : L.M.Halted w → L.M.Halted u
  -- a start takes nothing from a call under way, and leaves an idle hart idle
  pub kept : (other : ℕ) → other ≢ h → busy other ≡ true → L.M.Others other w [] u
  pub rests : (other : ℕ) → other ≢ h → busy other ≡ false → L.M.Idle other u
  pub tree : L.M.tree u ≡ L.M.tree w
  pub clean : L.M.Clean u → L.M.Clean w
  pub none : L.M.Clean u → IsBeginning L call []
  -- alone, under whatever the others may do, it does as it should
  pub runs : L.M.Inv u → Wp L.M h (Begun L call) (Ends L h call) (L.program call) (L.limit call) [] u

-- what a project shows: its machine's laws, and that each call is right alone
pub record Lawful (L : Theory) : Type 0 where
  pub laws : Laws L.M
  -- each call, started in a world that holds or has stopped
  pub calls : (h : ℕ) (call : L.Call) (busy : ℕ → Bool) (w u : L.M.World) → L.M.Inv w ⊎ L.M.Halted w
      → ((other : ℕ) → busy other ≡ false → L.M.Idle other w) → busy h ≡ false
      → L.start h call busy w ≡ Begins u → Right L h call busy w u

-- a call under way: the number of its start, its program from here on, how many steps ran, and its tree steps so far
-- with the newest first
pub record Run (L : Theory) : Type 0 where
  pub call : L.Call
  pub start : ℕ
  pub prog : P L.M L.Reply
  pub count : ℕ
  pub done : List L.M.Step

-- a placed step: the number of its event, its hart, the number of its call's start, and the step
pub record PlacedStep (L : Theory) : Type 0 where
  pub number : ℕ
  pub hart : ℕ
  pub call : ℕ
  pub step : L.M.Step

-- a finished call: the numbers of its start and its return, and how many steps it took
pub record FinishedCall (L : Theory) : Type 0 where
  pub hart : ℕ
  pub call : L.Call
  pub start : ℕ
  pub number : ℕ
  pub count : ℕ
  pub reply : L.Reply

-- both lists have the newest first
pub record State (L : Theory) : Type 0 where
  pub world : L.M.World
  pub stopped : Bool
  pub running : ℕ → Option (Run L)
  pub list : List (PlacedStep L)
  pub finished : List (FinishedCall L)
  pub now : ℕ

-- a start of a call, or a step with what the outside answers in it
pub data Event (Call Outside : Type 0) : Type 0 where
  Start : ℕ → Call → Event Call Outside
  Step : ℕ → Outside → Event Call Outside

abbrev pub hart_of : {Call Outside : Type 0} → Event Call Outside → ℕ
hart_of (Start h call) = h
hart_of (Step h x) = h

-- what was asked, without the outside's answer, and with one
abbrev pub asked : {Call Outside : Type 0} → Event Call Outside → Event Call (Unit {0})
asked (Start h call) = Start h call
asked (Step h x) = Step h tt

abbrev pub with_answer : {Call Outside : Type 0} → Event Call (Unit {0}) → Outside → Event Call Outside
with_answer (Start h call) x = Start h call
with_answer (Step h u) x = Step h x

abbrev pub all_asked : {Call Outside : Type 0} → List (Event Call Outside) → List (Event Call (Unit {0}))
all_asked [] = []
all_asked (e ∷ es) = asked e ∷ all_asked es

-- the outcome of an event
pub data Outcome (What Reply Refusal : Type 0) : Type 0 where
  Started : Outcome What Reply Refusal
  Refused : Refusal → Outcome What Reply Refusal
  -- the hart has no call
  WasIdle : Outcome What Reply Refusal
  DidWait : Outcome What Reply Refusal
  -- this was done, and the call goes on
  DidRun : What → Outcome What Reply Refusal
  DidEnd : Reply → Outcome What Reply Refusal
  -- this step stopped the world
  DidStop : Outcome What Reply Refusal
  -- the world had stopped before
  WasStopped : Outcome What Reply Refusal

abbrev pub EventOutcome : Theory → Type 0
EventOutcome L = Outcome (OpWithAnswer L.M) L.Reply L.Refusal

-- an event's outcome, and the state after it
pub record Made (L : Theory) : Type 0 where
  pub came : EventOutcome L
  pub after : State L

-- one entry of a table changed
abbrev pub changed : {A : Type 0} → (ℕ → A) → ℕ → A → ℕ → A
changed f h x k = if nat_eq k h then x else f k

abbrev pub is_some : {A : Type 0} → Option A → Bool
is_some None = false
is_some (Some x) = true

-- the number of the call's start
abbrev pub start_of : (L : Theory) → Option (Run L) → ℕ
start_of L None = 0
start_of L (Some r) = r.start

abbrev pub placed : (L : Theory) → ℕ → (ℕ → Option (Run L)) → List (ℕ × L.M.Step) → List (PlacedStep L) → List (PlacedStep L)
placed L number running [] list = list
placed L number running (p ∷ ps) list =
    placed L number running ps (record { number = number; hart = p.0; call = start_of L (running p.0); step = p.1 } ∷ list)

-- a call that was given these steps
abbrev pub told : (L : Theory) → List L.M.Step → Option (Run L) → Option (Run L)
told L xs None = None
told L xs (Some r) = Some (record r { done = onto xs r.done })

abbrev pub all_told : (L : Theory) → List (ℕ × L.M.Step) → (ℕ → Option (Run L)) → ℕ → Option (Run L)
all_told L ps running j = told L (own j ps) (running j)

-- nothing but the number of the event changes
abbrev pub unchanged : (L : Theory) → State L → State L
unchanged L s = record s { now = suc s.now }

-- the hart's program went on to p, in this world
abbrev pub moved : (L : Theory) → ℕ → State L → Run L → OpWithAnswer L.M → List (ℕ × L.M.Step) → P L.M L.Reply → L.M.World → Made L
moved L h s r did ps (Ret reply) w =
    record {
      came = DidEnd reply;
      after =
          record {
            world = w;
            stopped = s.stopped;
            running = changed (all_told L ps s.running) h None;
            list = placed L s.now s.running ps s.list;
            finished = record { hart = h; call = r.call; start = r.start; number = s.now; count = suc r.count; reply = reply } ∷ s.finished;
            now = suc s.now;
          };
    }
moved L h s r did ps (Do op m k) w =
    record {
      came = DidRun did;
      after =
          record {
            world = w;
            stopped = s.stopped;
            running = changed (all_told L ps s.running) h
                (Some (record { call = r.call; start = r.start; prog = Do op m k; count = suc r.count; done = onto (own h ps) r.done }));
            list = placed L s.now s.running ps s.list;
            finished = s.finished;
            now = suc s.now;
          };
    }

-- the result of the operation
abbrev pub tried : (L : Theory) → ℕ → State L → Run L → (op : L.M.Op) → (L.M.Answer op → List (ℕ × L.M.Step))
    → (L.M.Answer op → P L.M L.Reply) → ExecResult (L.M.Answer op) L.M.World → Made L
tried L h s r op ps k Waits = record { came = DidWait; after = unchanged L s }
tried L h s r op ps k (Ran a w) = moved L h s r (op, a) (ps a) (k a) w
tried L h s r op ps k (Stops w) =
    record {
      came = DidStop;
      after = record { world = w; stopped = true; running = s.running; list = s.list; finished = s.finished; now = suc s.now };
    }

abbrev pub step_prog : (L : Theory) → ℕ → L.M.Outside → State L → Run L → P L.M L.Reply → Made L
step_prog L h x s r (Ret reply) = record { came = WasIdle; after = unchanged L s }
step_prog L h x s r (Do op m k) = tried L h s r op (λ a. L.M.places h op a (m a) s.world) k (L.M.go h x op m s.world)

abbrev pub step_unless : (L : Theory) → ℕ → L.M.Outside → State L → Bool → Run L → Made L
step_unless L h x s true r = record { came = WasStopped; after = unchanged L s }
step_unless L h x s false r = step_prog L h x s r r.prog

abbrev pub step_run : (L : Theory) → ℕ → L.M.Outside → State L → Option (Run L) → Made L
step_run L h x s None = record { came = WasIdle; after = unchanged L s }
step_run L h x s (Some r) = step_unless L h x s s.stopped r

abbrev pub begun : (L : Theory) → ℕ → L.Call → State L → Began L.Refusal L.M.World → Made L
begun L h call s (Refuses why) = record { came = Refused why; after = unchanged L s }
begun L h call s (Begins w) =
    record {
      came = Started;
      after =
          record {
            world = w;
            stopped = s.stopped;
            running = changed s.running h (Some (record { call = call; start = s.now; prog = L.program call; count = 0; done = [] }));
            list = s.list;
            finished = s.finished;
            now = suc s.now;
          };
    }

-- which harts have a call under way
abbrev pub busy_in : (L : Theory) → State L → ℕ → Bool
busy_in L s j = is_some (s.running j)

abbrev pub start_run : (L : Theory) → ℕ → L.Call → State L → Option (Run L) → Made L
start_run L h call s (Some r) = record { came = Refused L.busy; after = unchanged L s }
start_run L h call s None = begun L h call s (L.start h call (busy_in L s) s.world)

-- one event
abbrev pub makes : (L : Theory) → Event L.Call L.M.Outside → State L → Made L
makes L (Start h call) s = start_run L h call s (s.running h)
makes L (Step h x) s = step_run L h x s (s.running h)

abbrev pub next : (L : Theory) → Event L.Call L.M.Outside → State L → State L
next L e s = (makes L e s).after

abbrev pub run : (L : Theory) → List (Event L.Call L.M.Outside) → State L → State L
run L [] s = s
run L (e ∷ es) s = run L es (next L e s)

-- what the outside answers to the hart's next operation is what it may; a stopped world asks nothing
abbrev pub HonestStep : (L : Theory) → ℕ → L.M.Outside → L.M.World → Bool → Option (Run L) → Type 0
HonestStep L h x w true r = Unit {0}
HonestStep L h x w false None = Unit {0}
HonestStep L h x w false (Some r) = OfNext (λ op v. L.M.Honest h op v x) (asks r.prog) w

abbrev pub IsHonest : (L : Theory) → Event L.Call L.M.Outside → State L → Type 0
IsHonest L (Start h call) s = Unit {0}
IsHonest L (Step h x) s = HonestStep L h x s.world s.stopped (s.running h)

abbrev pub AllHonest : (L : Theory) → List (Event L.Call L.M.Outside) → State L → Type 0
AllHonest L [] s = Unit {0}
AllHonest L (e ∷ es) s = IsHonest L e s × AllHonest L es (next L e s)

-- the outcome of each event of the list
abbrev pub outcomes : (L : Theory) → List (Event L.Call L.M.Outside) → State L → List (EventOutcome L)
outcomes L [] s = []
outcomes L (e ∷ es) s = (makes L e s).came ∷ outcomes L es (next L e s)

-- nothing happened yet
abbrev pub fresh : (L : Theory) → L.M.World → State L
fresh L w = record { world = w; stopped = false; running = λ h. None; list = []; finished = []; now = 0 }

-- A state that events make of a world that holds, with every hart idle at first, if the outside answers what it may.
pub record Sound (L : Theory) (s : State L) : Type 0 where
  pub first : L.M.World
  pub inv : L.M.Inv first
  pub idle : (h : ℕ) → L.M.Idle h first
  pub events : List (Event L.Call L.M.Outside)
  pub honest : AllHonest L events (fresh L first)
  pub is : run L events (fresh L first) ≡ s

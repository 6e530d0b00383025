-- All harts' programs over the state that the code has, without what the proof keeps beside them.
use Rattle.std.specs.Prelude.{◌≡◌, ℕ, Bool, true, false, Option, Some, None, List, [], ◌∷◌}
use Rattle.atomic_programs.specs.Prog.{Prog, Ret, Do, plain, ExecResult, Waits, Ran, Stops, exec_result_in, asks, OfNext}
use Rattle.atomic_programs.specs.Calls.{Theory, Began, Refuses, Begins, Run, State, Sound, Event, Start, Step, Outcome, Started, Refused, WasIdle, DidWait, DidRun, DidEnd, DidStop, WasStopped, EventOutcome, changed, is_some}

-- a call's program as code knows it: without marks
abbrev pub UnmarkedProgram : Theory → Type 0
UnmarkedProgram L = Prog L.M.Op L.M.Answer ⊥ L.Reply

-- what the code has of a theory's world, what an operation and a start make of it, and of which kind an operation with
-- its answer is
pub record Code (L : Theory) : Type 1 where
  pub Shared : Type 0
  pub Kind : Type 0
  pub shared : L.M.World → Shared
  pub kind : (op : L.M.Op) → L.M.Answer op → Kind
  pub exec : ℕ → L.M.Outside → (op : L.M.Op) → Shared → ExecResult (L.M.Answer op) Shared
  -- what the code asks when it makes the operation, and what it says of the answer from outside
  pub may : ℕ → L.M.Op → Shared → Type 0
  pub honest : ℕ → L.M.Op → Shared → L.M.Outside → Type 0
  pub begin : ℕ → L.Call → (ℕ → Bool) → Shared → Began L.Refusal Shared

abbrev pub began_in : {R V W : Type 0} → (V → W) → Began R V → Began R W
began_in f (Refuses why) = Refuses why
began_in f (Begins v) = Begins (f v)

-- the theory makes of the world what the code makes of its state; marks change nothing of it
pub record IsCode (L : Theory) (C : Code L) : Type 0 where
  pub goes : (h : ℕ) (x : L.M.Outside) (op : L.M.Op) (m : L.M.Answer op → Option L.M.Mark) (w : L.M.World)
      → C.exec h x op (C.shared w) ≡ exec_result_in C.shared (L.M.go h x op m w)
  pub may : (h : ℕ) (op : L.M.Op) (w : L.M.World) → L.M.May h op w → C.may h op (C.shared w)
  pub honest : (h : ℕ) (op : L.M.Op) (w : L.M.World) (x : L.M.Outside) → C.honest h op (C.shared w) x → L.M.Honest h op w x
  pub starts : (h : ℕ) (call : L.Call) (busy : ℕ → Bool) (w : L.M.World)
      → C.begin h call busy (C.shared w) ≡ began_in C.shared (L.start h call busy w)

pub record Plain (L : Theory) (C : Code L) : Type 0 where
  pub shared : C.Shared
  pub stopped : Bool
  pub running : ℕ → Option (UnmarkedProgram L)

pub record PlainMade (L : Theory) (C : Code L) : Type 0 where
  pub came : Outcome C.Kind L.Reply L.Refusal
  pub after : Plain L C

module _ (L : Theory) (C : Code L) where
  -- the outcome, with the operation's kind
  abbrev pub by_kind : EventOutcome L → Outcome C.Kind L.Reply L.Refusal
  by_kind Started = Started
  by_kind (Refused why) = Refused why
  by_kind WasIdle = WasIdle
  by_kind DidWait = DidWait
  by_kind (DidRun did) = DidRun (C.kind did.0 did.1)
  by_kind (DidEnd reply) = DidEnd reply
  by_kind DidStop = DidStop
  by_kind WasStopped = WasStopped

  abbrev pub plain_moved : ℕ → Plain L C → C.Kind → UnmarkedProgram L → C.Shared → PlainMade L C
  plain_moved h s kind (Ret reply) t =
      record { came = DidEnd reply; after = record { shared = t; stopped = s.stopped; running = changed s.running h None } }
  plain_moved h s kind (Do op m k) t =
      record { came = DidRun kind; after = record { shared = t; stopped = s.stopped; running = changed s.running h (Some (Do op m k)) } }

  abbrev pub plain_tried : ℕ → Plain L C → (op : L.M.Op) → (L.M.Answer op → UnmarkedProgram L) → ExecResult (L.M.Answer op) C.Shared
      → PlainMade L C
  plain_tried h s op k Waits = record { came = DidWait; after = s }
  plain_tried h s op k (Ran a t) = plain_moved h s (C.kind op a) (k a) t
  plain_tried h s op k (Stops t) = record { came = DidStop; after = record { shared = t; stopped = true; running = s.running } }

  abbrev pub plain_prog : ℕ → L.M.Outside → Plain L C → UnmarkedProgram L → PlainMade L C
  plain_prog h x s (Ret reply) = record { came = WasIdle; after = s }
  plain_prog h x s (Do op m k) = plain_tried h s op k (C.exec h x op s.shared)

  abbrev pub plain_unless : ℕ → L.M.Outside → Plain L C → Bool → UnmarkedProgram L → PlainMade L C
  plain_unless h x s true p = record { came = WasStopped; after = s }
  plain_unless h x s false p = plain_prog h x s p

  abbrev pub plain_step : ℕ → L.M.Outside → Plain L C → Option (UnmarkedProgram L) → PlainMade L C
  plain_step h x s None = record { came = WasIdle; after = s }
  plain_step h x s (Some p) = plain_unless h x s s.stopped p

  abbrev pub plain_begun : ℕ → L.Call → Plain L C → Began L.Refusal C.Shared → PlainMade L C
  plain_begun h call s (Refuses why) = record { came = Refused why; after = s }
  plain_begun h call s (Begins t) =
      record {
        came = Started;
        after = record {
          shared = t;
          stopped = s.stopped;
          running = changed s.running h (Some (plain (L.program call)));
        };
      }

  abbrev pub plain_start : ℕ → L.Call → Plain L C → Option (UnmarkedProgram L) → PlainMade L C
  plain_start h call s (Some p) = record { came = Refused L.busy; after = s }
  plain_start h call s None = plain_begun h call s (C.begin h call (λ j. is_some (s.running j)) s.shared)

  -- one event
  abbrev pub plain_makes : Event L.Call L.M.Outside → Plain L C → PlainMade L C
  plain_makes (Start h call) s = plain_start h call s (s.running h)
  plain_makes (Step h x) s = plain_step h x s (s.running h)

  abbrev pub plain_run : List (Event L.Call L.M.Outside) → Plain L C → Plain L C
  plain_run [] s = s
  plain_run (e ∷ es) s = plain_run es (plain_makes e s).after

  -- the outcome of each event of the list
  abbrev pub plain_outcomes : List (Event L.Call L.M.Outside) → Plain L C → List (Outcome C.Kind L.Reply L.Refusal)
  plain_outcomes [] s = []
  plain_outcomes (e ∷ es) s = (plain_makes e s).came ∷ plain_outcomes es (plain_makes e s).after

  abbrev pub all_by_kind : List (EventOutcome L) → List (Outcome C.Kind L.Reply L.Refusal)
  all_by_kind [] = []
  all_by_kind (c ∷ cs) = by_kind c ∷ all_by_kind cs

  abbrev pub prog_of : Option (Run L) → Option (UnmarkedProgram L)
  prog_of None = None
  prog_of (Some r) = Some (plain r.prog)

  -- what the proof keeps is left out
  abbrev pub erase : State L → Plain L C
  erase s = record { shared = C.shared s.world; stopped = s.stopped; running = λ h. prog_of (s.running h) }

  -- what the code says of the outside's answer in this event
  abbrev pub PlainHonestStep : ℕ → L.M.Outside → C.Shared → Bool → Option (UnmarkedProgram L) → Type 0
  PlainHonestStep h x t true p = Unit {0}
  PlainHonestStep h x t false None = Unit {0}
  PlainHonestStep h x t false (Some p) = OfNext (λ op v. C.honest h op v x) (asks p) t

  abbrev pub PlainHonest : Event L.Call L.M.Outside → Plain L C → Type 0
  PlainHonest (Start h call) s = Unit {0}
  PlainHonest (Step h x) s = PlainHonestStep h x s.shared s.stopped (s.running h)

  -- what the code asks of the state, if this is the hart's program
  abbrev pub MayOf : ℕ → C.Shared → Option (UnmarkedProgram L) → Type 0
  MayOf h t None = Unit {0}
  MayOf h t (Some p) = OfNext (C.may h) (asks p) t

  -- this is what the code has of a sound state
  pub record SoundPlain (p : Plain L C) : Type 0 where
    pub state : State L
    pub sound : Sound L state
    pub is : erase state ≡ p

  -- one hart's step as the hart sees it: its outcome, its program afterwards, the shared state, and whether the world stopped
  pub record HartMade : Type 0 where
    pub came : Outcome C.Kind L.Reply L.Refusal
    pub left : Option (UnmarkedProgram L)
    pub shared : C.Shared
    pub stopped : Bool

  abbrev pub hart_moved : Bool → C.Kind → UnmarkedProgram L → C.Shared → HartMade
  hart_moved b kind (Ret reply) t = record { came = DidEnd reply; left = None; shared = t; stopped = b }
  hart_moved b kind (Do op m k) t = record { came = DidRun kind; left = Some (Do op m k); shared = t; stopped = b }

  abbrev pub hart_tried : UnmarkedProgram L → C.Shared → (op : L.M.Op) → (L.M.Answer op → UnmarkedProgram L)
      → ExecResult (L.M.Answer op) C.Shared → HartMade
  hart_tried p t op k Waits = record { came = DidWait; left = Some p; shared = t; stopped = false }
  hart_tried p t op k (Ran a u) = hart_moved false (C.kind op a) (k a) u
  hart_tried p t op k (Stops u) = record { came = DidStop; left = Some p; shared = u; stopped = true }

  abbrev pub hart_prog : ℕ → L.M.Outside → C.Shared → UnmarkedProgram L → HartMade
  hart_prog h x t (Ret reply) = record { came = WasIdle; left = Some (Ret reply); shared = t; stopped = false }
  hart_prog h x t (Do op m k) = hart_tried (Do op m k) t op k (C.exec h x op t)

  abbrev pub hart_step : ℕ → L.M.Outside → C.Shared → Bool → Option (UnmarkedProgram L) → HartMade
  hart_step h x t b None = record { came = WasIdle; left = None; shared = t; stopped = b }
  hart_step h x t true (Some p) = record { came = WasStopped; left = Some p; shared = t; stopped = true }
  hart_step h x t false (Some p) = hart_prog h x t p

  abbrev pub hart_begun : L.Call → C.Shared → Bool → Began L.Refusal C.Shared → HartMade
  hart_begun call t b (Refuses why) = record { came = Refused why; left = None; shared = t; stopped = b }
  hart_begun call t b (Begins u) = record { came = Started; left = Some (plain (L.program call)); shared = u; stopped = b }

  -- a start, the same way
  abbrev pub hart_start : ℕ → L.Call → (ℕ → Bool) → C.Shared → Bool → Option (UnmarkedProgram L) → HartMade
  hart_start h call busy t b None = hart_begun call t b (C.begin h call busy t)
  hart_start h call busy t b (Some p) = record { came = Refused L.busy; left = Some p; shared = t; stopped = b }

  abbrev pub put_back : ℕ → Plain L C → HartMade → PlainMade L C
  put_back h s m = record { came = m.came; after = record { shared = m.shared; stopped = m.stopped; running = changed s.running h m.left } }

-- Calls whose steps are moves on the tree, over any machine: what their events show of calls, and that one list of tree steps explains
-- them.
use Rattle.std.specs.Prelude.{◌≡◌, ◌⊎◌, ℕ, zero, suc, ◌<◌, Bool, false, List, [], ◌∷◌, Option, None}
use Rattle.image_versions.specs.declared.version.Version.{Version}
use Rattle.plain_tree.specs.Calls.{Act}
use Rattle.inode_machine.specs.Vocabulary.{Reply, Call, Placed, TreeData, tree_of, call_climbs, Shown, Chain, Explains, trace_of, Begun, Replied, Other, hart_count, IsWellFormed, Prog, ExecResult, Machine, Theory, Began, Begins, Lawful, Event, Start, Step, Outcome, Started, Refused, WasIdle, DidWait, DidRun, DidEnd, DidStop, WasStopped, State, AllHonest, fresh, makes, next, run, settle, Stage, Move, MoveStep, PlaysStep, IsNext, IsWholeCall, after, begins, Begin, Look, Own, GiveUpWalk}

-- the number that a lookup has for a new node is none, or of the tree's range
abbrev pub IsOfRange : Stage → Move → Type 0
IsOfRange m (Begin s new) = Unit {0}
IsOfRange m (Look zero) = Unit {0}
IsOfRange m (Look (suc n)) = suc n < m.tree.ninodes
IsOfRange m (GiveUpWalk s) = Unit {0}
IsOfRange m (Own s new) = Unit {0}

-- the move is made, with such a number
abbrev pub TakesMove : Version → Stage → ℕ → MoveStep → Stage → Type 0
TakesMove version m h e m' = PlaysStep version m h e m' × IsOfRange m e.move

-- a machine whose steps are moves of a call on the tree, and calls over it
pub record MoveMachine : Type 1 where
  pub Op : Type 0
  pub Answer : Op → Type 0
  pub Mark : Type 0
  pub World : Type 0
  pub more : Op → ℕ
  pub Outside : Type 0
  pub Honest : ℕ → Op → World → Outside → Type 0
  pub May : ℕ → Op → World → Type 0
  pub go : ℕ → Outside → (op : Op) → (Answer op → Option Mark) → World → ExecResult (Answer op) World
  pub places : ℕ → (op : Op) → Answer op → Option Mark → World → List (ℕ × MoveStep)
  pub tree : World → Stage
  pub Inv : World → Type 0
  pub Halted : World → Type 0
  pub Others : ℕ → World → List MoveStep → World → Type 0
  pub Idle : ℕ → World → Type 0
  pub MayWait : ℕ → Op → World → Type 0
  pub Clean : World → Type 0
  pub Refusal : Type 0
  pub start : ℕ → Call → (ℕ → Bool) → World → Began Refusal World
  pub busy : Refusal
  pub program : Call → Prog Op Answer Mark Reply
  pub limit : Call → ℕ

abbrev pub machine_of : Version → MoveMachine → Machine
machine_of version m =
    record {
      Op = m.Op;
      Answer = m.Answer;
      Mark = m.Mark;
      Step = MoveStep;
      World = m.World;
      Tree = Stage;
      more = m.more;
      Outside = m.Outside;
      Honest = m.Honest;
      May = m.May;
      go = m.go;
      places = m.places;
      tree = m.tree;
      Takes = TakesMove version;
      Inv = m.Inv;
      Halted = m.Halted;
      Others = m.Others;
      Idle = m.Idle;
      MayWait = m.MayWait;
      Clean = m.Clean;
    }

-- These moves, after the acts so far, are as the call makes them: each step that is begun is the next one of its
-- written sequence. The last one may have found no room: such a call has no whole sequence, but it is in the list
-- until it says so.
abbrev pub IsPlayedSoFar : Call → List Act → List MoveStep → Type 0
IsPlayedSoFar c acts [] = Unit {0}
IsPlayedSoFar c acts (e ∷ es) = IsNext c acts (begins e.move) × IsPlayedSoFar c (after e.told acts) es

abbrev pub theory_of : Version → MoveMachine → Theory
theory_of version m =
    record {
      M = machine_of version m;
      Call = Call;
      Reply = Reply;
      Refusal = m.Refusal;
      start = m.start;
      busy = m.busy;
      program = m.program;
      Written = IsWholeCall;
      WrittenSoFar = λ call es. IsPlayedSoFar call [] es;
      limit = m.limit;
    }

-- ---- what events show of calls

-- by the outcome of an event
abbrev pub shown_start : {What Refusal : Type 0} → ℕ → Call → Outcome What Reply Refusal → Shown
shown_start h call Started = Begun h call
shown_start h call (Refused why) = Other
shown_start h call WasIdle = Other
shown_start h call DidWait = Other
shown_start h call (DidRun did) = Other
shown_start h call (DidEnd reply) = Other
shown_start h call DidStop = Other
shown_start h call WasStopped = Other

abbrev pub shown_step : {What Refusal : Type 0} → ℕ → Outcome What Reply Refusal → Shown
shown_step h Started = Other
shown_step h (Refused why) = Other
shown_step h WasIdle = Other
shown_step h DidWait = Other
shown_step h (DidRun did) = Other
shown_step h (DidEnd reply) = Replied h reply
shown_step h DidStop = Other
shown_step h WasStopped = Other

abbrev pub shown_by : {Outside What Refusal : Type 0} → Event Call Outside → Outcome What Reply Refusal → Shown
shown_by (Start h call) came = shown_start h call came
shown_by (Step h x) came = shown_step h came

-- no call that is asked for has a path with ".."
abbrev pub climbs_at : {Outside : Type 0} → Event Call Outside → Bool
climbs_at (Start h call) = call_climbs call
climbs_at (Step h x) = false

abbrev pub NoneClimbs : {Outside : Type 0} → List (Event Call Outside) → Type 0
NoneClimbs [] = Unit {0}
NoneClimbs (e ∷ es) = (climbs_at e ≡ false) × NoneClimbs es

-- one hart alone is asked for calls
abbrev pub StartsBy : {Outside : Type 0} → ℕ → Event Call Outside → Type 0
StartsBy h (Start g call) = g ≡ h
StartsBy h (Step g x) = Unit {0}

abbrev pub Alone : {Outside : Type 0} → ℕ → List (Event Call Outside) → Type 0
Alone h [] = Unit {0}
Alone h (e ∷ es) = StartsBy h e × Alone h es

module _ (version : Version) (m : MoveMachine) where
  abbrev pub shows : List (Event Call m.Outside) → State (theory_of version m) → List Shown
  shows [] s = []
  shows (e ∷ es) s = shown_by e (makes (theory_of version m) e s).came ∷ shows es (next (theory_of version m) e s)

  -- what is shown of the machine and its calls. An operation places no move, or one of its own hart. A start is of one
  -- of eight harts and leaves the tree. A hart that is idle walks nowhere; and the tree has settled
  pub record IsMoving : Type 0 where
    pub lawful : Lawful (theory_of version m)
    pub one : (h : ℕ) (op : m.Op) (a : m.Answer op) (mark : Option m.Mark) (w : m.World)
        → (m.places h op a mark w ≡ []) ⊎ ((e : MoveStep) × (m.places h op a mark w ≡ (h, e) ∷ []))
    pub begins : (h : ℕ) (call : Call) (busy : ℕ → Bool) (w u : m.World) → m.start h call busy w ≡ Begins u
        → (h < hart_count) × (m.tree u ≡ m.tree w)
    pub rests : (h : ℕ) (w : m.World) → m.Idle h w → (m.tree w).walk h ≡ None
    pub settled : (w : m.World) → settle (m.tree w).tree ≡ (m.tree w).tree

  -- One list of tree steps explains the run's trace, and leads from its first tree to the tree that its world has.
  pub record HasOneHistory (base : TreeData) (w : m.World) (events : List (Event Call m.Outside)) : Type 0 where
    pub list : List Placed
    pub explains : Explains version base (trace_of (shows events (fresh (theory_of version m) w))) list
    pub leads : Chain version (tree_of base) list (m.tree (run (theory_of version m) events (fresh (theory_of version m) w)).world).tree

  -- From a world in which every hart rests, on this tree, if no step found no room.
  pub record RunsFrom (base : TreeData) (w : m.World) (events : List (Event Call m.Outside)) : Type 0 where
    pub holds : m.Inv w
    pub idle : (h : ℕ) → m.Idle h w
    pub tree : (m.tree w).tree ≡ tree_of base
    pub well : IsWellFormed (tree_of base)
    pub honest : AllHonest (theory_of version m) events (fresh (theory_of version m) w)
    pub clean : m.Clean (run (theory_of version m) events (fresh (theory_of version m) w)).world

-- The history of a run as a function of it: the list that is kept beside the events, to which each event appends.
use Rattle.std.specs.Prelude.{ℕ, Bool, true, false, List, [], ◌∷◌, Option, Some, None}
use Rattle.image_versions.specs.declared.version.Version.{Version}
use Rattle.inode_machine.specs.Vocabulary.{Reply, Call, Placed, put, settle, tree_of, TreeData, Chain, Explains, no_calls, trace_of, Prog, Ret, Do, ExecResult, Waits, Ran, Stops, Event, Start, Step, Run, State, Outcome, Started, Refused, WasIdle, DidWait, DidRun, DidEnd, DidStop, WasStopped, fresh, makes, next, run, Deed, Move, Stage, MoveStep, History, starts, passes, Free, finishes, moves_on}
use Rattle.tree_laws.specs.Runs as runs
use Rattle.inode_machine.specs.Marks.{made_by}
use Rattle.inode_machine.specs.Basics.{MoveMachine, NoneClimbs, RunsFrom, shows, theory_of}

-- ---- beside a run of the theory

abbrev pub nothing_yet : History
nothing_yet = record { list = []; trace = no_calls; calls = λ h. Free }

module _ (m : MoveMachine) where
  -- what an event places: as its hart's program ran its operation with this answer
  abbrev pub placed_tried : {A : Type 0} → (A → List (ℕ × MoveStep)) → ExecResult A m.World → List (ℕ × MoveStep)
  placed_tried ps Waits = []
  placed_tried ps (Ran a w) = ps a
  placed_tried ps (Stops w) = []

  abbrev pub placed_prog : ℕ → m.Outside → m.World → Prog m.Op m.Answer m.Mark Reply → List (ℕ × MoveStep)
  placed_prog h x w (Ret r) = []
  placed_prog h x w (Do op mark k) = placed_tried (λ a. m.places h op a (mark a) w) (m.go h x op mark w)

  abbrev pub placed_unless : ℕ → m.Outside → m.World → Bool → Prog m.Op m.Answer m.Mark Reply → List (ℕ × MoveStep)
  placed_unless h x w true p = []
  placed_unless h x w false p = placed_prog h x w p

  -- what its move tells; it places one at most
  abbrev pub told_of : List (ℕ × MoveStep) → Option Deed
  told_of [] = None
  told_of (p ∷ ps) = p.1.told

  -- an event that had this outcome, and led from this stage to that one, with what it reports: a step that ran is
  -- written, with the walks lost by it
  abbrev pub kept_start : {What Refusal : Type 0} → ℕ → Call → Outcome What Reply Refusal → History → History
  kept_start h call Started b = starts b h call
  kept_start h call (Refused why) b = passes b
  kept_start h call WasIdle b = passes b
  kept_start h call DidWait b = passes b
  kept_start h call (DidRun did) b = passes b
  kept_start h call (DidEnd reply) b = passes b
  kept_start h call DidStop b = passes b
  kept_start h call WasStopped b = passes b

  abbrev pub kept_step : {What Refusal : Type 0} → ℕ → Outcome What Reply Refusal → Stage → Stage → Option Deed → History → History
  kept_step h Started n n' d b = passes b
  kept_step h (Refused why) n n' d b = passes b
  kept_step h WasIdle n n' d b = passes b
  kept_step h DidWait n n' d b = passes b
  kept_step h (DidRun did) n n' d b = finishes None h (moves_on n n' h d b)
  kept_step h (DidEnd reply) n n' d b = finishes (Some reply) h (moves_on n n' h d b)
  kept_step h DidStop n n' d b = passes b
  kept_step h WasStopped n n' d b = passes b

  abbrev pub kept_by : {What Refusal : Type 0} → Event Call m.Outside → Outcome What Reply Refusal → Stage → Stage → Option Deed → History
      → History
  kept_by (Start h call) came n n' d b = kept_start h call came b
  kept_by (Step h x) came n n' d b = kept_step h came n n' d b

module _ (version : Version) (m : MoveMachine) where
  abbrev pub placed_run : ℕ → m.Outside → State (theory_of version m) → Option (Run (theory_of version m)) → List (ℕ × MoveStep)
  placed_run h x s None = []
  placed_run h x s (Some r) = placed_unless m h x s.world s.stopped r.prog

  abbrev pub placed : Event Call m.Outside → State (theory_of version m) → List (ℕ × MoveStep)
  placed (Start h call) s = []
  placed (Step h x) s = placed_run h x s (s.running h)

  -- one event more, from s
  abbrev pub kept_on : Event Call m.Outside → State (theory_of version m) → History → History
  kept_on e s b = kept_by m e (makes (theory_of version m) e s).came (m.tree s.world) (m.tree (next (theory_of version m) e s).world)
      (told_of m (placed e s)) b

  abbrev pub kept : List (Event Call m.Outside) → State (theory_of version m) → History → History
  kept [] s b = b
  kept (e ∷ es) s b = kept es (next (theory_of version m) e s) (kept_on e s b)

  -- The list: of these events, from this world.
  abbrev pub history_of : m.World → List (Event Call m.Outside) → List Placed
  history_of w events = (kept events (fresh (theory_of version m) w) nothing_yet).list

  -- The list explains the run, and leads to its tree; and its entries before an event are the list of the events before that.
  pub record IsTheHistory (base : TreeData) (w : m.World) (events : List (Event Call m.Outside)) : Type 0 where
    pub explains : Explains version base (trace_of (shows version m events (fresh (theory_of version m) w))) (history_of w events)
    pub leads : Chain version (tree_of base) (history_of w events)
        (m.tree (run (theory_of version m) events (fresh (theory_of version m) w)).world).tree

  -- no path climbs
  abbrev pub RunsHaveTheHistory : Type 0
  RunsHaveTheHistory =
      (base : TreeData) (w : m.World) (events : List (Event Call m.Outside)) → RunsFrom version m base w events → NoneClimbs events
      → IsTheHistory base w events

-- ---- in code: the same, of a tree that is kept with its walks

-- a move, as the machine of whole inodes makes it of a settled tree; id: of a new open file
abbrev pub told_by_move : Version → Stage → ℕ → ℕ → Move → Option Deed
told_by_move version m h id v = (made_by version m.tree h id (m.walk h) v).told

abbrev pub stage_by : Version → Stage → ℕ → ℕ → Move → Stage
stage_by version m h id v =
    record {
      tree = settle (made_by version m.tree h id (m.walk h) v).all;
      walk = put m.walk h (made_by version m.tree h id (m.walk h) v).walk;
    }

-- a hart's event with this move: what code keeps goes on so
abbrev pub moved : Version → runs.World → ℕ → ℕ → Option Move → Option Reply → runs.World
moved version w h id None r = runs.stepped w h None w.stage r
moved version w h id (Some v) r = runs.stepped w h (told_by_move version w.stage h id v) (stage_by version w.stage h id v) r

-- The list that is kept explains every run of moves.
use Rattle.std.specs.Prelude.{◌≡◌, ◌≢◌, ℕ, zero, suc, ◌<◌, List, [], ◌∷◌, ◌++◌, map, filter, length, nat_lt, ◌==◌, Option, Some, None}
use Rattle.image_versions.specs.declared.version.Version.{Version}
use Rattle.tree_laws.specs.Vocabulary.{Reply, Call, Placed, TreeData, hart_count, Tree, tree_of, Act, Chain, acts_of, trace_of, Explains}
use Rattle.tree_laws.specs.WellFormed.{IsWellFormed}
use Rattle.tree_laws.specs.Moves.{Deed, Stage, Step, begins, IsNext, after, MayEnd, IsWholeCall, told_by}
use Rattle.tree_laws.specs.History.HartStanding.{Free, Busy}
use Rattle.tree_laws.specs.Runs.{World, Event, lost_of, stepped, Runs, NoneClimbs, Alone, opened, shown_of}

-- From a well-formed tree with idle harts, if no path climbs.
abbrev pub RunsAreExplained : Version → Type 0
RunsAreExplained version = (base : TreeData) (w : World) (events : List Event) → IsWellFormed (tree_of base) → NoneClimbs events
    → Runs version (opened (tree_of base)) events w → Explains version base (trace_of (map shown_of events)) w.history.list

-- The list leads from the first tree to the tree at the end, which is well formed.
abbrev pub ListsLeadToTheTree : Version → Type 0
ListsLeadToTheTree version = (base : TreeData) (w : World) (events : List Event) → IsWellFormed (tree_of base) → NoneClimbs events
    → Runs version (opened (tree_of base)) events w → Chain version (tree_of base) w.history.list w.stage.tree × IsWellFormed w.stage.tree

-- the entries whose event is before this one
abbrev pub before : ℕ → List Placed → List Placed
before n list = filter (λ e. nat_lt e.event n) list

-- The entries of the first events are the list as it was after them.
abbrev pub ListsGrow : Version → Type 0
ListsGrow version = (t : Tree) (w w' : World) (events later : List Event) → Runs version (opened t) events w → Runs version w later w'
    → before (length events) w'.history.list ≡ w.history.list

abbrev pub of_call : ℕ → List Placed → List Placed
of_call id list = filter (λ e. e.call == id) list

-- the entries of the first n calls, one call after the other
unfoldable pub in_turn : ℕ → List Placed → List Placed
in_turn zero list = []
in_turn (suc n) list = in_turn n list ++ of_call n list

-- If one hart alone makes calls, whether paths climb or not, the list is its calls' sequences one after the other.
abbrev pub OneHartIsExplained : Version → Type 0
OneHartIsExplained version = (base : TreeData) (w : World) (h : ℕ) (events : List Event) → IsWellFormed (tree_of base) → Alone h events
    → Runs version (opened (tree_of base)) events w
    → Explains version base (trace_of (map shown_of events)) w.history.list
    × (w.history.list ≡ in_turn (length (trace_of (map shown_of events)).calls) w.history.list)

-- Of a call under way the list has what the call was handed. If its walk is lost, the list also has the failing step,
-- which the call is handed when it gives the walk up.
abbrev pub CallsAreToldLate : Version → Type 0
CallsAreToldLate version =
    (base : TreeData) (w : World) (events : List Event) (h id : ℕ) (c : Call) (told : List Act) → IsWellFormed (tree_of base)
    → NoneClimbs events → Runs version (opened (tree_of base)) events w → h < hart_count → w.history.calls h ≡ Busy id c told
    → acts_of id w.history.list ≡ after (lost_of w.stage h) told

-- If a call's moves are written, each begins the step that is next after what the call was handed so far. After the
-- last the call may end.
abbrev pub WrittenMovesComeNext : Type 0
WrittenMovesComeNext =
    (c : Call) (es rest : List Step) (e : Step) (r : Reply) → IsWholeCall c (es ++ e ∷ rest) r → IsNext c (told_by [] es) (begins e.move)

abbrev pub WrittenMovesEnd : Type 0
WrittenMovesEnd = (c : Call) (es : List Step) (r : Reply) → IsWholeCall c es r → MayEnd c (told_by [] es) r

-- One more move hands the call one more deed, or nothing.
abbrev pub MovesTellInTurn : Type 0
MovesTellInTurn = (acts : List Act) (es : List Step) (e : Step) → told_by acts (es ++ e ∷ []) ≡ after e.told (told_by acts es)

-- The state of the calls after a hart's event.
pub record Tells (w : World) (h id : ℕ) (c : Call) (acts : List Act) (told : Option Deed) (m : Stage) : Type 0 where
  pub goes_on : (stepped w h told m None).history.calls h ≡ Busy id c (after told acts)
  pub ends : (r : Reply) → (stepped w h told m (Some r)).history.calls h ≡ Free
  pub others : (r : Option Reply) (g : ℕ) → g ≢ h → (stepped w h told m r).history.calls g ≡ w.history.calls g

abbrev pub EventsTellTheirHart : Type 0
EventsTellTheirHart = (w : World) (h id : ℕ) (c : Call) (acts : List Act) (told : Option Deed) (m : Stage)
    → w.history.calls h ≡ Busy id c acts → Tells w h id c acts told m

-- A run and a run from its end are a run.
abbrev pub RunsGoOn : Version → Type 0
RunsGoOn version = (w mid w' : World) (events later : List Event) → Runs version w events mid → Runs version mid later w'
    → Runs version w (events ++ later) w'

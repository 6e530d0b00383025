-- Runs: calls of many harts make their moves on one tree, and the history is written beside them.
use Rattle.std.specs.Prelude.{◌≡◌, ℕ, zero, suc, ◌<◌, Bool, false, List, [], ◌∷◌, if◌then◌else◌, Option, Some, None}
use Rattle.image_versions.specs.declared.version.Version.{Version}
use Rattle.tree_laws.specs.Vocabulary.{Reply, Call, hart_count, Tree, live_directory, Act, call_climbs, Shown, no_calls, Started, Replied, Other}
use Rattle.tree_laws.specs.Moves.{Deed, Walk, Stage, Move, fail, Plays, begins, IsNext, after, MayEnd}
use Rattle.tree_laws.specs.History.{History, writes_any, tells_any, starts, replies, passes}
use Rattle.tree_laws.specs.History.HartStanding.{Free, Busy}

-- A walk is lost if its node is no live directory. Its call fails at the very event that makes it so, and is handed
-- that failure when it gives the walk up.
abbrev pub lost : Tree → Option Walk → Option Deed
lost t None = None
lost t (Some w) = if live_directory (t.nodes w.at) then None else Some (fail w.step)

abbrev pub lost_of : Stage → ℕ → Option Deed
lost_of m g = lost m.tree (m.walk g)

-- what the list already has isn't written again
abbrev pub unless : Option Deed → Option Deed → Option Deed
unless None d = d
unless (Some e) d = None

-- the failing step of a walk that this event loses
abbrev pub falls : Stage → Stage → ℕ → Option Deed
falls m m' g = unless (lost_of m g) (lost_of m' g)

-- those of the first n harts, in order of hart
unfoldable pub all_fall : Stage → Stage → ℕ → History → History
all_fall m m' zero b = b
all_fall m m' (suc n) b = writes_any (falls m m' n) n (all_fall m m' n b)

-- A hart's event. What its call is handed is written, unless it was written when the walk was lost. Then the walks
-- that the event loses are written.
abbrev pub moves_on : Stage → Stage → ℕ → Option Deed → History → History
moves_on m m' h told b = all_fall m m' hart_count (tells_any told h (writes_any (unless (lost_of m h) told) h b))

pub record World : Type 0 where
  pub stage : Stage
  pub history : History

pub data Event : Type 0 where
  Starts : (h : ℕ) → (c : Call) → Event
  Steps : (h : ℕ) → (v : Option Move) → (r : Option Reply) → Event  -- at most one move, and the call may end
  Nothing : Event  -- a refused start, a wait, an idle step

-- an event may be no move
abbrev pub PlaysAny : Version → Stage → ℕ → Option Move → Option Deed → Stage → Type 0
PlaysAny version m h None told m' = (told ≡ None) × (m' ≡ m)
PlaysAny version m h (Some v) told m' = Plays version m h v told m'

abbrev pub BeginsNext : Call → List Act → Option Move → Type 0
BeginsNext c acts None = Unit {0}
BeginsNext c acts (Some v) = IsNext c acts (begins v)

-- A reply is given if the call has no walk and its written sequence has no further step.
abbrev pub MayReply : Stage → ℕ → Call → List Act → Option Reply → Type 0
MayReply m h c acts None = Unit {0}
MayReply m h c acts (Some r) = (m.walk h ≡ None) × MayEnd c acts r

abbrev pub finishes : Option Reply → ℕ → History → History
finishes None h b = passes b
finishes (Some r) h b = replies b h r

abbrev pub stepped : World → ℕ → Option Deed → Stage → Option Reply → World
stepped w h told m r = record { stage = m; history = finishes r h (moves_on w.stage m h told w.history) }

pub record HasStarted (w : World) (h : ℕ) (c : Call) (w' : World) : Type 0 where
  pub hart : h < hart_count
  pub free : w.history.calls h ≡ Free
  pub world : w' ≡ record { stage = w.stage; history = starts w.history h c }

-- The call c of hart h, which was handed these acts, makes at most one move, is handed the deed, and may reply.
pub record HasStepped (version : Version) (w : World) (h : ℕ) (v : Option Move) (r : Option Reply) (w' : World) : Type 0 where
  pub hart : h < hart_count
  pub id : ℕ
  pub c : Call
  pub acts : List Act
  pub busy : w.history.calls h ≡ Busy id c acts
  pub next : BeginsNext c acts v
  pub told : Option Deed
  pub stage : Stage
  pub plays : PlaysAny version w.stage h v told stage
  pub reply : MayReply stage h c (after told acts) r
  pub world : w' ≡ stepped w h told stage r

-- What may happen at an event.
abbrev pub Happens : Version → World → Event → World → Type 0
Happens version w (Starts h c) w' = HasStarted w h c w'
Happens version w (Steps h v r) w' = HasStepped version w h v r w'
Happens version w Nothing w' = w' ≡ record { stage = w.stage; history = passes w.history }

unfoldable pub Runs : Version → World → List Event → World → Type 0
Runs version w [] w' = w ≡ w'
Runs version w (e ∷ es) w' = (mid : World) × Happens version w e mid × Runs version mid es w'

-- The beginning: no walks, no calls.
abbrev pub opened : Tree → World
opened t = record {
  stage = record { tree = t; walk = λ h. None };
  history = record { list = []; trace = no_calls; calls = λ h. Free };
}

-- what the events show
abbrev pub shown_of : Event → Shown
shown_of (Starts h c) = Started h c
shown_of (Steps h v None) = Other
shown_of (Steps h v (Some r)) = Replied h r
shown_of Nothing = Other

abbrev pub climbing : Event → Bool
climbing (Starts h c) = call_climbs c
climbing (Steps h v r) = false
climbing Nothing = false

-- no path of a call that starts has the element ".."
unfoldable pub NoneClimbs : List Event → Type 0
NoneClimbs [] = Unit {0}
NoneClimbs (e ∷ es) = (climbing e ≡ false) × NoneClimbs es

abbrev pub IsStartBy : ℕ → Event → Type 0
IsStartBy h (Starts g c) = g ≡ h
IsStartBy h (Steps g v r) = Unit {0}
IsStartBy h Nothing = Unit {0}

-- one hart alone makes calls
unfoldable pub Alone : ℕ → List Event → Type 0
Alone h [] = Unit {0}
Alone h (e ∷ es) = IsStartBy h e × Alone h es

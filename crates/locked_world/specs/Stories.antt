-- What is kept of a list of events and of their outcomes: a note of each, with the calls of the starts and the
-- replies in lists of their own.
use Rattle.std.specs.Prelude.{ℕ, ◌+◌, ◌≡◌, ◌≤◌, Bool, true, false, if◌then◌else◌, ◌==◌, List, [], ◌∷◌, ◌++◌, Option, Some, None, length, map}
use Rattle.locked_world.specs.Vocabulary.{Reply, Call, Event, Came}
use Rattle.hart_core.specs.declared.events.Event.TheVariants as event
use Rattle.hart_core.specs.declared.events.Came.TheVariants as came
use Rattle.hart_core.specs.declared.outcome.Outcome.TheVariants as outcome
use Rattle.locked_world.specs.declared.note.Given.{Given}
use Rattle.locked_world.specs.declared.note.Note.{Note}
use Rattle.locked_world.specs.declared.note.What.{What}
use Rattle.locked_world.specs.declared.note.What.TheVariants as what

-- ---- a row of things, some of which take the next one of a list

module _ {X : Type 0} where
  -- the next one, if one is taken
  abbrev pub first : Bool → List X → Option X
  first false xs = None
  first true [] = None
  first true (x ∷ xs) = Some x

  -- those after it
  abbrev pub past : Bool → List X → List X
  past false xs = xs
  past true [] = []
  past true (x ∷ xs) = xs

module _ {A X B : Type 0} where
  abbrev pub each : (A → Bool) → (A → Option X → B) → List A → List X → List B
  each takes one [] xs = []
  each takes one (a ∷ rest) xs = one a (first (takes a) xs) ∷ each takes one rest (past (takes a) xs)

module _ {A : Type 0} where
  -- how many take one
  abbrev pub takers : (A → Bool) → List A → ℕ
  takers takes [] = 0
  takers takes (a ∷ rest) = (if takes a then 1 else 0) + takers takes rest

-- ---- notes

-- of a start a call is kept
abbrev pub is_start : What → Bool
is_start what.Started = true
is_start (what.Refused why) = true
is_start what.Idle = false
is_start (what.Ran kind) = false
is_start what.Done = false
is_start (what.Stopped why) = false

abbrev pub is_reply : What → Bool
is_reply what.Started = false
is_reply (what.Refused why) = false
is_reply what.Idle = false
is_reply (what.Ran kind) = false
is_reply what.Done = true
is_reply (what.Stopped why) = false

abbrev pub starts : Note → Bool
starts n = is_start n.what

abbrev pub replies : Note → Bool
replies n = is_reply n.what

-- the event of a hart, with a call if it is a start
abbrev pub event_at : ℕ → Option Call → Event
event_at h None = event.Step h
event_at h (Some call) = event.Start h call

-- its outcome, with the reply if it gave one
abbrev pub came_at : What → Option Given → Came
came_at what.Started g = came.Started
came_at (what.Refused why) g = came.Refused why
came_at what.Idle g = came.Stepped outcome.Idle
came_at (what.Ran kind) g = came.Stepped (outcome.Ran kind)
came_at what.Done None = came.Stepped outcome.Idle
came_at what.Done (Some g) = came.Stepped (outcome.Done g.reply)
came_at (what.Stopped why) g = came.Stepped (outcome.Stopped why)

abbrev pub event_noted : Note → Option Call → Event
event_noted n call = event_at n.hart call

abbrev pub came_noted : Note → Option Given → Came
came_noted n given = came_at n.what given

abbrev pub noted_events : List Note → List Call → List Event
noted_events ns cs = each starts event_noted ns cs

abbrev pub noted_outcomes : List Note → List Given → List Came
noted_outcomes ns gs = each replies came_noted ns gs

-- each event with its outcome
abbrev pub noted_pairs : List Note → List Call → List Given → List (Event × Came)
noted_pairs [] cs gs = []
noted_pairs (n ∷ ns) cs gs =
    (event_noted n (first (starts n) cs), came_noted n (first (replies n) gs)) ∷ noted_pairs ns (past (starts n) cs) (past (replies n) gs)

-- the harts that were given replies
abbrev pub answered : List Note → List ℕ
answered [] = []
answered (n ∷ ns) = if is_reply n.what then n.hart ∷ answered ns else answered ns

-- There is a call for each start, and a reply of its hart for each that gave one.
pub record IsNoted (ns : List Note) (cs : List Call) (gs : List Given) : Type 0 where
  pub calls : takers starts ns ≡ length cs
  pub given : takers replies ns ≡ length gs
  pub harts : answered ns ≡ map (λ g. g.hart) gs

-- the reply, if it is to this hart
abbrev pub reply_to : ℕ → Given → List Reply
reply_to h g = if h == g.hart then g.reply ∷ [] else []

-- the replies to a hart, in their order
abbrev pub given_to : ℕ → List Given → List Reply
given_to h [] = []
given_to h (g ∷ gs) = reply_to h g ++ given_to h gs

-- the events, their outcomes, and how much room there is for more
pub record StoryOf : Type 0 where
  pub events : List Event
  pub outcomes : List Came
  pub notes_left : ℕ
  pub calls_left : ℕ
  pub replies_left : ℕ

-- there is room for one event, whatever its outcome
pub record HasRoom (s : StoryOf) : Type 0 where
  pub notes : 1 ≤ s.notes_left
  pub calls : 1 ≤ s.calls_left
  pub replies : 1 ≤ s.replies_left

-- Lists of events: what they make of a world, what they show of calls, and the list of tree steps that explains it.
use Rattle.std.specs.Prelude.{◌≡◌, ◌⊎◌, ℕ, false, List, [], ◌∷◌}
use Rattle.std.specs.List.{All}
use Rattle.hart_core.specs.Vocabulary.{Super, Version, sizes_of, tree_in, Reply, Call, Placed, Trace, TracedCall, call_climbs, Shown, Explains, trace_of, Started, Replied, Other, TreeData, EventOf, OutcomeOf, all_asked, fresh, run, Plain, PlainHonest, plain_makes, plain_run, plain_outcomes, Kind, Outside, Refusal, first, block_calls, block_code}
use Rattle.hart_core.specs.declared.events.Event.{Event}
use Rattle.hart_core.specs.declared.events.Event.TheVariants as event
use Rattle.hart_core.specs.declared.events.Came.{Came}
use Rattle.hart_core.specs.declared.events.Came.TheVariants as came
use Rattle.hart_core.specs.declared.outcome.Outcome.{Outcome}
use Rattle.hart_core.specs.declared.outcome.Outcome.TheVariants as outcome
use Rattle.hart_core.specs.Events.{event_of, came_of}
use Rattle.hart_core.specs.Harts.{HartsOf}
use Rattle.hart_core.specs.Mounting.{Rests}
use Rattle.hart_core.specs.Worlds.{WorldOf, calls_of}

abbrev pub events_of : List Event → List (EventOf Call (Unit {0}))
events_of [] = []
events_of (e ∷ es) = event_of e ∷ events_of es

abbrev pub outcomes_of : List Came → List (OutcomeOf Kind Reply Refusal)
outcomes_of [] = []
outcomes_of (o ∷ os) = came_of o ∷ outcomes_of os

-- ---- what events show of calls

abbrev pub shown_start : ℕ → Call → Came → Shown
shown_start h call came.Started = Started h call
shown_start h call (came.Refused why) = Other
shown_start h call (came.Stepped outcome) = Other

abbrev pub shown_outcome : ℕ → Outcome → Shown
shown_outcome h outcome.Idle = Other
shown_outcome h outcome.Waits = Other
shown_outcome h (outcome.Ran kind) = Other
shown_outcome h (outcome.Done reply) = Replied h reply
shown_outcome h (outcome.Stopped stop) = Other

abbrev pub shown_step : ℕ → Came → Shown
shown_step h came.Started = Other
shown_step h (came.Refused why) = Other
shown_step h (came.Stepped outcome) = shown_outcome h outcome

-- a start that wasn't refused, or a reply
abbrev pub shown : Event → Came → Shown
shown (event.Start h call) c = shown_start h call c
shown (event.Step h) c = shown_step h c

abbrev pub all_shown : List Event → List Came → List Shown
all_shown [] cs = []
all_shown (e ∷ es) [] = []
all_shown (e ∷ es) (c ∷ cs) = shown e c ∷ all_shown es cs

-- the calls that these events with these outcomes started, and their replies
abbrev pub trace_in : List Event → List Came → Trace
trace_in events outcomes = trace_of (all_shown events outcomes)

-- ---- runs

module _ (sizes : Super) where
  -- what the device answers in each of these events is possible
  abbrev pub AllAnswer : List (EventOf Call Outside) → Plain (block_calls sizes) (block_code sizes) → Type 0
  AllAnswer [] p = Unit {0}
  AllAnswer (e ∷ es) p =
      PlainHonest (block_calls sizes) (block_code sizes) e p × AllAnswer es (plain_makes (block_calls sizes) (block_code sizes) e p).after

module _ {D : Type 0} (contents : D → List (List ℕ)) (failures : D → ℕ) where
  -- A history of a run from old to new: the same events, each with a possible answer of the device. With these
  -- answers they have these outcomes, and make new of old, one after the other.
  pub record IsHistory (sizes : Super) (old : HartsOf D) (events : List Event) (outcomes : List Came) (new : HartsOf D)
      (history : List (EventOf Call Outside)) : Type 0 where
    pub asks : all_asked history ≡ events_of events
    pub answers : AllAnswer sizes history (calls_of contents failures sizes old)
    pub comes_to : plain_outcomes (block_calls sizes) (block_code sizes) history (calls_of contents failures sizes old)
        ≡ outcomes_of outcomes
    pub makes : plain_run (block_calls sizes) (block_code sizes) history (calls_of contents failures sizes old)
        ≡ calls_of contents failures sizes new

  abbrev pub HasHistory : Super → HartsOf D → List Event → List Came → HartsOf D → Type 0
  HasHistory sizes old events outcomes new = (history : List (EventOf Call Outside)) × IsHistory sizes old events outcomes new history

  -- the world is as a mount of this device leaves it
  pub record IsMounted (device : D) (w : WorldOf D) : Type 0 where
    pub rests : Rests contents failures device w.harts
    pub sizes : w.sizes ≡ sizes_of (contents device)

  -- No step of this history, of a mounted world, found no room: neither one that replied so, nor one of a call that hasn't replied yet.
  abbrev pub FoundRoom : WorldOf D → List (EventOf Call Outside) → Type 0
  FoundRoom w history =
      (block_calls w.sizes).M.Clean
      (run (block_calls w.sizes) history
      (fresh (block_calls w.sizes) (first (contents w.harts.core.log.cache.device) (failures w.harts.core.log.cache.device)))).world

-- no call's path has the element ".."
abbrev pub NoneClimbs : Trace → Type 0
NoneClimbs t = All (λ (c : TracedCall). call_climbs c.call ≡ false) t.calls

-- one hart has made all calls
abbrev pub OneHart : Trace → Type 0
OneHart t = (h : ℕ) × All (λ (c : TracedCall). c.hart ≡ h) t.calls

-- some list of tree steps explains the trace
abbrev pub IsExplained : Version → TreeData → Trace → Type 0
IsExplained version base t = (list : List Placed) × Explains version base t list

module _ {D : Type 0} (contents : D → List (List ℕ)) (failures : D → ℕ) where
  -- Let the world be mounted, and let each step of some history of the run have found room. Then one list of tree
  -- steps explains all calls that were started, from the image's tree, if no path climbs or one hart has made all
  -- calls.
  abbrev pub OneHistory : WorldOf D → List Event → List Came → HartsOf D → Type 0
  OneHistory w events outcomes new =
      (device : D) (history : List (EventOf Call Outside)) → IsMounted contents failures device w
      → IsHistory contents failures w.sizes w.harts events outcomes new history
      → FoundRoom contents failures w history → NoneClimbs (trace_in events outcomes) ⊎ OneHart (trace_in events outcomes)
      → IsExplained w.sizes.version (tree_in (contents device)) (trace_in events outcomes)

-- What an event says of the call of its hart: how far it is, and what it hears.
use Rattle.std.specs.Prelude.{◌≡◌, ℕ, Bool, List, [], ◌∷◌, Option, Some, None, get_or, slice_set}
use Rattle.hart_core.specs.Vocabulary.{Super, Call, Heard, HasBegun, Running, State, TellsOf, heard_of, lacks_place_at, list_any}
use Rattle.hart_core.specs.declared.events.Event.{Event}
use Rattle.hart_core.specs.declared.events.Event.TheVariants as event
use Rattle.hart_core.specs.declared.events.Came.{Came}
use Rattle.hart_core.specs.declared.events.Came.TheVariants as came
use Rattle.hart_core.specs.declared.outcome.Outcome.{Outcome}
use Rattle.hart_core.specs.declared.outcome.Outcome.TheVariants as outcome
use Rattle.hart_core.specs.Events.{came_of, event_of, said_of}
use Rattle.hart_core.specs.Harts.{AreHarts, HartsOf, shared_of}
use Rattle.hart_core.specs.Starts.{fault_of}
use Rattle.hart_core.specs.Worlds.{Answers, Makes, WorldOf}
use Rattle.hart_core.specs.Vocabulary.{with_answer}

-- ---- in a hart's place

-- what is left there of a call that goes on, or has ended
abbrev pub rest_of : Option (Unit {0}) → Running → Option Running
rest_of None m = Some m
rest_of (Some end) m = None

-- A step of the call in this place ran, and this was heard in it.
abbrev pub RanAt : ℕ → Option Running → Option (Unit {0}) → Option Heard → Option Running → (old new : State) → Type 0
RanAt h None out heard after old new = ⊥
RanAt h (Some m) out heard after old new =
    (left : Running) × TellsOf h m out left old new × (heard ≡ heard_of left) × (after ≡ rest_of out left)

-- the same call is in the place, as far as it had come
abbrev pub StaysAt : Option Running → Option Running → Type 0
StaysAt None after = after ≡ None
StaysAt (Some m) None = ⊥
StaysAt (Some m) (Some left) = (left.control ≡ m.control) × (left.hand ≡ m.hand)

abbrev pub TellsOutcome : ℕ → Option Running → Outcome → Option Heard → Option Running → (old new : State) → Type 0
TellsOutcome h before outcome.Idle heard after old new = StaysAt before after
TellsOutcome h before outcome.Waits heard after old new = StaysAt before after
TellsOutcome h before (outcome.Ran kind) heard after old new = RanAt h before None heard after old new
TellsOutcome h before (outcome.Done reply) heard after old new = RanAt h before (Some tt) heard after old new
TellsOutcome h before (outcome.Stopped stop) heard after old new = StaysAt before after

-- what a hart's call heard last: of one under way, by its place
abbrev pub heard_at : Option Heard → Option Running → Option Heard
heard_at last None = last
heard_at last (Some m) = heard_of m

abbrev pub heard_by : {D : Type 0} → WorldOf D → ℕ → Option Heard
heard_by w h = heard_at w.last (get_or w.harts.calls h None)

-- a call claims an inode, and no place in memory was left; the call hasn't heard so yet
abbrev pub some_lacks_place : {D : Type 0} → HartsOf D → Bool
some_lacks_place w = list_any lacks_place_at w.calls

-- what a call heard last stays until one replies
abbrev pub KeepsLast : Outcome → Option Heard → Option Heard → Type 0
KeepsLast (outcome.Done reply) was last = Unit {0}
KeepsLast outcome was last = last ≡ was

-- ---- of an event

abbrev pub TellsStart : Super → Call → Option Running → Came → Option Running → Type 0
TellsStart sizes call before came.Started after = (before ≡ None) × HasBegun sizes call after × (fault_of call ≡ None)
TellsStart sizes call before (came.Refused why) after = StaysAt before after
TellsStart sizes call before (came.Stepped outcome) after = ⊥

abbrev pub TellsStep : ℕ → Option Running → Came → Option Heard → Option Running → (old new : State) → Type 0
TellsStep h before came.Started heard after old new = ⊥
TellsStep h before (came.Refused why) heard after old new = ⊥
TellsStep h before (came.Stepped outcome) heard after old new = TellsOutcome h before outcome heard after old new

abbrev pub TellsPlace : Super → Event → Option Running → Came → Option Heard → Option Running → (old new : State) → Type 0
TellsPlace sizes (event.Start h call) before c heard after old new = TellsStart sizes call before c after
TellsPlace sizes (event.Step h) before c heard after old new = TellsStep h before c heard after old new

abbrev pub hart_of : Event → ℕ
hart_of (event.Start h call) = h
hart_of (event.Step h) = h

-- what was heard in an event with this outcome: nothing but in a step that ran
abbrev pub heard_after : Outcome → Option Heard → Option Heard
heard_after outcome.Idle x = None
heard_after outcome.Waits x = None
heard_after (outcome.Ran kind) x = x
heard_after (outcome.Done reply) x = x
heard_after (outcome.Stopped stop) x = None

abbrev pub heard_in : Came → Option Heard → Option Heard
heard_in came.Started x = None
heard_in (came.Refused why) x = None
heard_in (came.Stepped outcome) x = heard_after outcome x

-- the harts beside this one have the calls that they had
abbrev pub SetsAt : ℕ → List (Option Running) → List (Option Running) → Type 0
SetsAt h old new = new ≡ slice_set old h (get_or new h None)

module _ {D : Type 0} (contents : D → List (List ℕ)) (failures : D → ℕ) where
  -- The event changes the place of its hart alone, as its place says.
  pub record TellsEvent (sizes : Super) (e : Event) (old : HartsOf D) (c : Came) (heard : Option Heard) (new : HartsOf D) : Type 0 where
    pub place : TellsPlace sizes e (get_or old.calls (hart_of e) None) c heard (get_or new.calls (hart_of e) None)
        (shared_of contents failures old) (shared_of contents failures new)
    pub others : SetsAt (hart_of e) old.calls new.calls

  -- ---- of a run, to an observer

  module _ {O : Type 0} (Took : O → Came → Option Heard → O → Type 0) (sizes : Super) where
    -- An event of the run that the observer noted.
    pub record NotesEvent (e : Event) (old : HartsOf D) (before : O) (c : Came) (new : HartsOf D) (after : O) : Type 0 where
      pub makes : Makes contents failures sizes (with_answer (event_of e) (said_of c (shared_of contents failures new))) old (came_of c) new
      pub answers : Answers contents failures sizes (with_answer (event_of e) (said_of c (shared_of contents failures new))) old
      pub heard : Option Heard
      pub tells : TellsEvent sizes e old c heard new
      pub fits : AreHarts (shared_of contents failures new) new.calls
      pub took : Took before c (heard_in c heard) after

    -- These events, one after the other, had these outcomes, and the observer noted each.
    abbrev pub NotesRun : HartsOf D → O → List Event → List Came → HartsOf D → O → Type 0
    NotesRun old before [] [] new after = (new ≡ old) × (after ≡ before)
    NotesRun old before [] (c ∷ cs) new after = ⊥
    NotesRun old before (e ∷ es) [] new after = ⊥
    NotesRun old before (e ∷ es) (c ∷ cs) new after =
        (mid : HartsOf D) × (amid : O) × NotesEvent e old before c mid amid × NotesRun mid amid es cs new after

-- What the lines of a script do (docs/SCRIPT.md), one after the other.
use Rattle.std.specs.Prelude.{◌≡◌, ℕ, zero, suc, nat_lt, Bool, true, false, if◌then◌else◌, List, [], ◌∷◌, ◌++◌, set, Option, Some, None, Result, Ok, Err, codes, decimal}
use Rattle.console.specs.Vocabulary.{Kind, Event, Came, Outcome}
use Rattle.hart_core.specs.declared.events.Event.TheVariants as event
use Rattle.hart_core.specs.declared.events.Came.TheVariants as came
use Rattle.hart_core.specs.declared.outcome.Outcome.TheVariants as outcome
use Rattle.script.specs.Said as said
use Rattle.script.specs.Said.{Line, Start, Run, Step, Upto, End, All}
use Rattle.console.specs.declared.fault.ConsoleFault.{ConsoleFault}
use Rattle.console.specs.declared.fault.ConsoleFault.TheVariants as faults
use Rattle.console.specs.declared.flow.Flow.{Flow}
use Rattle.console.specs.declared.flow.Flow.TheVariants.{Rests, Waits, Moves}
use Rattle.console.specs.declared.plan.Plan.{Plan}
use Rattle.console.specs.declared.plan.Until.{Until}
use Rattle.console.specs.declared.verb.Verb.{Verb}
use Rattle.console.specs.declared.doing.Doing.{Doing}
use Rattle.console.specs.Behaviours.{Behaviour, gives, in_case, followed_by, takes_memory, prints}
use Rattle.console.specs.Basics.{called, QueuedCalls, left_to, SessionOf, EventOfCall, Happens, count_of, doing_at, verb_of}
use Rattle.console.specs.Told.{told}

-- ---- one event

-- whether anything moved: a start does, also one that is refused, and a step that ran
abbrev pub flow_of_step : Outcome → Result Flow ConsoleFault
flow_of_step outcome.Idle = Ok Rests
flow_of_step outcome.Waits = Ok Waits
flow_of_step (outcome.Ran kind) = Ok Moves
flow_of_step (outcome.Done reply) = Ok Moves
flow_of_step (outcome.Stopped stop) = Err (faults.Stopped stop)

abbrev pub flow_of : Came → Result Flow ConsoleFault
flow_of came.Started = Ok Moves
flow_of (came.Refused why) = Ok Moves
flow_of (came.Stepped outcome) = flow_of_step outcome

-- A run goes on after an event, unless a call was stopped in it; or its answer isn't written, or there is no memory to note it.
abbrev pub IsPassed : Came → Result Flow ConsoleFault → Type 0
IsPassed came (Err (faults.Write e)) = Unit {0}
IsPassed came (Err faults.Memory) = Unit {0}
IsPassed came (Ok flow) = flow_of came ≡ Ok flow
IsPassed came (Err (faults.Stopped stop)) = flow_of came ≡ Err (faults.Stopped stop)
IsPassed came (Err (faults.Image f)) = ⊥
IsPassed came (Err (faults.Read e)) = ⊥
IsPassed came (Err (faults.Line n why)) = ⊥

-- the file system, and the calls that are still to be started
pub record RunOf (D : Type 0) : Type 0 where
  pub session : SessionOf D
  pub left : QueuedCalls

abbrev pub state : {D : Type 0} → SessionOf D → QueuedCalls → RunOf D
state session left = record { session = session; left = left }

-- the turn moved if anything in it did, and else waited if anything did
abbrev pub joined : Flow → Flow → Flow
joined Moves flow = Moves
joined Rests flow = flow
joined Waits Moves = Moves
joined Waits Waits = Waits
joined Waits Rests = Waits

-- enough steps of this kind have run, if that ends the steps
abbrev pub is_enough : Option Until → Doing → Bool
is_enough None d = false
is_enough (Some until) d = if nat_lt (count_of until.kind d) until.steps then false else true

-- turns go on as long as the last one moved: if every hart with something to do waited, the next would be the same
abbrev pub goes_on : Flow → Bool
goes_on Moves = true
goes_on Waits = false
goes_on Rests = false

-- more turns than any call takes
abbrev pub most_turns : ℕ
most_turns = 18446744073709551615

abbrev pub to_end : Plan
to_end = record { until = None; most = most_turns }

abbrev pub up_to : Kind → ℕ → Plan
up_to kind steps = record { until = Some (record { kind = kind; steps = steps }); most = most_turns }

abbrev pub in_steps : ℕ → Plan
in_steps steps = record { until = None; most = steps }

abbrev pub all_harts : List ℕ
all_harts = 0 ∷ 1 ∷ 2 ∷ 3 ∷ 4 ∷ 5 ∷ 6 ∷ 7 ∷ []

-- a hart that has a call
abbrev pub wait_text : ℕ → Option Doing → List ℕ
wait_text hart None = []
wait_text hart (Some d) = decimal hart ++ codes " waits\n"

module _ {D : Type 0} (contents : D → List (List ℕ)) (failures : D → ℕ) where
  -- the event is made, printed and noted
  pub record HappensSo (e : Event) (verb : Verb) (s : RunOf D) (events : List EventOfCall) (text : List ℕ)
      (result : Result Flow ConsoleFault) (t : RunOf D) : Type 0 where
    pub came : Came
    pub happens : Happens contents failures s.session (record { event = e; verb = verb; came = came }) t.session
    pub left : t.left ≡ s.left
    pub passed : IsPassed came result
    pub events_are : events ≡ record { event = e; verb = verb; came = came } ∷ []
    pub text_is : text ≡ told (record { event = e; verb = verb; came = came })

  unfoldable pub happens : Event → Verb → Behaviour (RunOf D) Flow
  happens e verb s events text result t = HappensSo e verb s events text result t

  -- a start of the call that a line says
  abbrev pub starts : ℕ → said.Call → Behaviour (RunOf D) Flow
  starts hart call = followed_by (takes_memory (called call)) (λ c. happens (event.Start hart c) (verb_of c))

  -- A hart that has a call makes a step of it, unless enough have run. One that has none starts the next of those that are still to be
  -- started by itself.
  abbrev pub acts_as : Option Until → ℕ → Option Doing → List said.Call → Behaviour (RunOf D) Flow
  acts_as until hart (Some d) calls = in_case (is_enough until d) (gives Rests) (happens (event.Step hart) d.verb)
  acts_as until hart None [] = gives Rests
  acts_as until hart None (call ∷ calls) = λ s. starts hart call (record s { left = set s.left hart calls })

  unfoldable pub acts : Option Until → ℕ → Behaviour (RunOf D) Flow
  acts until hart s = acts_as until hart (doing_at hart s.session.doing) (left_to hart s.left) s

  -- one act of each of these harts, in their order
  unfoldable pub turn : Option Until → List ℕ → Flow → Behaviour (RunOf D) Flow
  turn until [] flow = gives flow
  turn until (hart ∷ harts) flow = followed_by (acts until hart) (λ more. turn until harts (joined flow more))

  -- turn after turn, at most n
  unfoldable pub turns : Plan → List ℕ → ℕ → Flow → Behaviour (RunOf D) Flow
  turns plan harts zero last = gives last
  turns plan harts (suc n) last =
      in_case (goes_on last) (followed_by (turn plan.until harts Rests) (λ flow. turns plan harts n flow)) (gives last)

  -- each of these harts that has a call waits
  unfoldable pub tells_waits : List ℕ → Behaviour (RunOf D) (Unit {0})
  tells_waits [] = gives tt
  tells_waits (hart ∷ harts) = followed_by (prints (λ s. wait_text hart (doing_at hart s.session.doing))) (λ u. tells_waits harts)

  abbrev pub tells_flow : List ℕ → Flow → Behaviour (RunOf D) (Unit {0})
  tells_flow harts Waits = tells_waits harts
  tells_flow harts Moves = gives tt
  tells_flow harts Rests = gives tt

  -- turns until one in which nothing moved; what waits then is printed
  unfoldable pub settles : Plan → List ℕ → Behaviour (RunOf D) (Unit {0})
  settles plan harts = followed_by (turns plan harts plan.most Moves) (tells_flow harts)

  -- ---- lines

  unfoldable pub line : Line → Behaviour (RunOf D) (Unit {0})
  line (Start hart call) = followed_by (starts hart call) (λ flow. gives tt)
  line (Run hart call) = followed_by (starts hart call) (λ flow. settles to_end (hart ∷ []))
  line (Step hart steps) = followed_by (turns (in_steps steps) (hart ∷ []) steps Moves) (λ flow. gives tt)
  line (Upto hart kind steps) = settles (up_to kind steps) (hart ∷ [])
  line (End hart) = settles to_end (hart ∷ [])
  line All = settles to_end all_harts

  -- each once, in their order, up to a fault
  unfoldable pub lines : List Line → Behaviour (RunOf D) (Unit {0})
  lines [] = gives tt
  lines (l ∷ ls) = followed_by (line l) (λ u. lines ls)

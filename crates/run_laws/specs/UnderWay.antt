-- Which operation on whole inodes is under way in each hart's call, at each event of a run: how it goes on, and what is placed as it acts.
use Rattle.std.specs.Prelude.{◌≡◌, ℕ, suc, Bool, true, false, not, List, [], ◌∷◌, ◌++◌, length, Option, Some, None, is_some}
use Rattle.run_laws.specs.Vocabulary.{Super, Reply, Call, Handover, Ret, Do, bind, Ran, Theory, Run, State, EventOf, Start, Step, EventOutcome, Made, Started, DidRun, DidEnd, fresh, makes, run, changed, or_else, ActOf, lowered, Outside, AnswerBelow, program, nothing, handlers, Carry, layer, first, block_calls, block_moves, machine, Above, Answer, Mark, Op, World, Take, StatFile, LockFile, LockOpen, Claim, MoveStep, go, places, placed, seen_in, Came, Event, HartsOf, IsHistory, IsMounted, WorldOf, Version}
use Rattle.fs_machine.specs.Steps as steps
use Rattle.inode_machine.specs.World as above
use Rattle.inode_machine.specs.World.Op.{Leave}
use Rattle.inodes_on_blocks.specs.Handlers.{P}
use Rattle.run_laws.specs.ActsAt.{IsAtEnd}
use Rattle.run_laws.specs.Searches.{AnsweredStep}

-- ---- an operation under way

-- An operation on whole inodes that a hart's call is in, with its mark, and how the call's program goes on by its
-- answer. It has what was in hand as it began, and the steps of its own program on the blocks that ran, the oldest
-- first. It also has the rest of that program, and the answer with which it has acted, if it has.
pub record UnderWay : Type 0 where
  pub op : Op
  pub mark : Answer op → Option Mark
  pub rest : Answer op → Above Reply
  pub hand : Carry
  pub ran : List AnsweredStep
  pub left : P (Handover (Answer op) Carry)
  pub acted : Option (Answer op)

-- these steps, the oldest first, lead from one program to the other
abbrev pub LeadTo : {A : Type 0} → P A → List AnsweredStep → P A → Type 0
LeadTo p [] q = p ≡ q
LeadTo (Ret a) (e ∷ es) q = ⊥
LeadTo (Do op m k) (e ∷ es) q = (b : AnswerBelow op) × (e ≡ (op, b)) × LeadTo (k b) es q

-- no step ran
abbrev pub none_ran : List AnsweredStep → Bool
none_ran [] = true
none_ran (e ∷ es) = false

-- the program is at its end
abbrev pub is_at_end : {A : Type 0} → P A → Bool
is_at_end (Ret a) = true
is_at_end (Do op m k) = false

-- ---- when it acts

-- in the first step of its program, in the last one, or in one of them
pub data ActingTime : Type 0 where
  InFirst : ActingTime
  InLast : ActingTime
  InOne : ActingTime

abbrev pub time_of : Op → ActingTime
time_of (Take n looking) = InFirst
time_of (StatFile fd) = InFirst
time_of (LockFile fd) = InFirst
time_of (LockOpen fd n) = InFirst
time_of Leave = InFirst
time_of (Claim inode_type) = InOne
time_of op = InLast

-- whether it acts in a step, by whether that is the first one and whether it is the last
abbrev pub ActsThen : ActingTime → (first last acts : Bool) → Type 0
ActsThen InFirst first last acts = acts ≡ first
ActsThen InLast first last acts = acts ≡ last
ActsThen InOne first last acts = Unit {0}

-- whether it has acted before a step, by whether that is the first one
abbrev pub HasActed : ActingTime → (first acted : Bool) → Type 0
HasActed InFirst first acted = acted ≡ not first
HasActed InLast first acted = acted ≡ false
HasActed InOne first acted = Unit {0}

-- ---- as it acts

-- an inode whose lock is taken is answered as it is seen then
abbrev pub SeesTruly : Version → (op : Op) → Answer op → World → Type 0
SeesTruly version (Take n looking) a w = a ≡ seen_in version n looking (w.disk n)
SeesTruly version op a w = Unit {0}

-- If it acts with this answer the machine of whole inodes answers so, and goes from v to w; if it doesn't, nothing is
-- done there.
abbrev pub IsMadeBy : Version → ℕ → (u : UnderWay) → Option (Answer u.op) → (v w : World) → Type 0
IsMadeBy version h u None v w = w ≡ v
IsMadeBy version h u (Some a) v w = ((x : above.Outside) × (go version h x u.op u.mark v ≡ Ran a w)) × SeesTruly version u.op a v

-- what is placed by its mark at this answer, if it acts
abbrev pub placed_by : Version → ℕ → (u : UnderWay) → Option (Answer u.op) → World → List (ℕ × MoveStep)
placed_by version h u None w = []
placed_by version h u (Some a) w = places version h u.op a (u.mark a) w

-- ---- how it goes on

-- if its program ends, it has acted, with the answer that this ends with
abbrev pub EndsAsActed : (u : UnderWay) → Option (Answer u.op) → P (Handover (Answer u.op) Carry) → Type 0
EndsAsActed u acted (Ret z) = acted ≡ Some z.answer
EndsAsActed u acted (Do op m k) = Unit {0}

module _ (sizes : Super) where
  abbrev L : Theory
  L = block_calls sizes

  -- with this in hand a call's program is at the beginning of its first operation
  abbrev pub at_beginning : Carry → Above Reply → Option UnderWay
  at_beginning hand (Ret reply) = None
  at_beginning hand (Do op m k) =
      Some (record { op = op; mark = m; rest = k; hand = hand; ran = []; left = handlers sizes hand op m; acted = None })

  -- after this step, which left that of its program: it goes on; or the next one begins, with what was handed on
  abbrev pub gone_on : (u : UnderWay) → Option (Answer u.op) → AnsweredStep → P (Handover (Answer u.op) Carry) → Option UnderWay
  gone_on u acted step (Ret z) = at_beginning z.carry (u.rest z.answer)
  gone_on u acted step (Do op m k) = Some (record u { ran = u.ran ++ step ∷ []; left = Do op m k; acted = acted })

  -- the outcome of the step: the reply, if the call's program is at its end too
  abbrev pub call_outcome : AnsweredStep → Above Reply → EventOutcome (block_calls sizes)
  call_outcome step (Ret reply) = DidEnd reply
  call_outcome step (Do op m k) = DidRun step

  abbrev pub step_outcome : (u : UnderWay) → AnsweredStep → P (Handover (Answer u.op) Carry) → EventOutcome (block_calls sizes)
  step_outcome u step (Ret z) = call_outcome step (u.rest z.answer)
  step_outcome u step (Do op m k) = DidRun step

  -- the rest of the call's program on the blocks
  abbrev pub program_left : UnderWay → P Reply
  program_left u = bind u.left (λ z. lowered (machine sizes.version) (layer sizes) (handlers sizes) z.carry (u.rest z.answer))

  -- a call of whose program this is left is in that operation
  pub record IsInOperation (left : P Reply) (u : UnderWay) : Type 0 where
    pub is : left ≡ program_left u
    pub leads : LeadTo (handlers sizes u.hand u.op u.mark) u.ran u.left
    pub goes_on : IsAtEnd u.left → ⊥
    pub acted : HasActed (time_of u.op) (none_ran u.ran) (is_some u.acted)

  -- a hart is in an operation exactly if it has a call
  abbrev pub Fits : Option (Run (block_calls sizes)) → Option UnderWay → Type 0
  Fits None None = Unit {0}
  Fits (Some r) (Some u) = IsInOperation r.prog u
  Fits _ _ = ⊥

  -- ---- an event

  -- Hart h's step ran, and made this of the state; `was` and `now`: what each hart's call is in before it, and after
  -- it.
  pub record RunsAStep (h : ℕ) (x : Outside) (s : State (block_calls sizes)) (made : Made (block_calls sizes))
      (was now : ℕ → Option UnderWay) : Type 0 where
    pub under : UnderWay
    pub is : was h ≡ Some under
    -- the step on the blocks is the next one of the operation's program
    pub op : steps.Op
    pub mark : AnswerBelow op → Option (ActOf (machine sizes.version))
    pub rest : AnswerBelow op → P (Handover (Answer under.op) Carry)
    pub asks : under.left ≡ Do op mark rest
    pub answer : AnswerBelow op
    pub ran : L.M.go h x op mark s.world ≡ Ran answer made.after.world
    -- the answer with which the operation acts in this step, if it does
    pub acts : Option (Answer under.op)
    pub then_ : ActsThen (time_of under.op) (none_ran under.ran) (is_at_end (rest answer)) (is_some acts)
    pub once : is_some acts ≡ true → under.acted ≡ None
    pub does : IsMadeBy sizes.version h under acts s.world.seen made.after.world.seen
    pub places : placed sizes.version (block_moves sizes) (Step h x) s ≡ placed_by sizes.version h under acts s.world.seen
    -- so it goes on
    pub ends : EndsAsActed under (or_else acts under.acted) (rest answer)
    pub came : made.came ≡ step_outcome under (op, answer) (rest answer)
    pub goes_on : now ≡ changed was h (gone_on under (or_else acts under.acted) (op, answer) (rest answer))

  -- a call that begins is at the beginning of its first operation, with nothing in hand
  abbrev pub StartDoes : ℕ → Call → EventOutcome (block_calls sizes) → (was now : ℕ → Option UnderWay) → Type 0
  StartDoes h call Started was now = now ≡ changed was h (at_beginning nothing (program sizes.version call))
  StartDoes h call came was now = now ≡ was

  -- a step that didn't run does nothing
  abbrev pub StepDoes : ℕ → Outside → State (block_calls sizes) → Made (block_calls sizes) → EventOutcome (block_calls sizes)
      → (was now : ℕ → Option UnderWay) → Type 0
  StepDoes h x s made (DidRun step) was now = RunsAStep h x s made was now
  StepDoes h x s made (DidEnd reply) was now = RunsAStep h x s made was now
  StepDoes h x s made came was now = (now ≡ was) × (placed sizes.version (block_moves sizes) (Step h x) s ≡ [])

  -- an event that made this of the state
  abbrev pub EventDoes : EventOf Call Outside → State (block_calls sizes) → Made (block_calls sizes)
      → (was now : ℕ → Option UnderWay) → Type 0
  EventDoes (Start h call) s made was now = StartDoes h call made.came was now
  EventDoes (Step h x) s made was now = StepDoes h x s made made.came was now

  -- ---- what a step places

  module _ (h : ℕ) (x : Outside) (s : State (block_calls sizes)) (made : Made (block_calls sizes)) (was now : ℕ → Option UnderWay) where
    abbrev pub PlacesAt : ActingTime → (first : Bool) → (r : RunsAStep h x s made was now) → P (Handover (Answer r.under.op) Carry) → Type 0
    PlacesAt InFirst true r left =
        (a : Answer r.under.op)
        × (placed sizes.version (block_moves sizes) (Step h x) s ≡ places sizes.version h r.under.op a (r.under.mark a) s.world.seen)
        × SeesTruly sizes.version r.under.op a s.world.seen
        × (or_else r.acts r.under.acted ≡ Some a)
    PlacesAt InFirst false r left =
        (placed sizes.version (block_moves sizes) (Step h x) s ≡ []) × (or_else r.acts r.under.acted ≡ r.under.acted)
    PlacesAt InLast first r (Ret z) =
        placed sizes.version (block_moves sizes) (Step h x) s
        ≡ places sizes.version h r.under.op z.answer (r.under.mark z.answer) s.world.seen
    PlacesAt InLast first r (Do op m k) = placed sizes.version (block_moves sizes) (Step h x) s ≡ []
    PlacesAt InOne first r left = Unit {0}

  -- ---- a run

  -- Events from this world on: under k h is what hart h's call is in after the first k of them. So it is before each event, and so the
  -- event leads on from it.
  pub record GoesOnAsItActs (start : (block_calls sizes).M.World) (events : List (EventOf Call Outside)) : Type 0 where
    pub under : ℕ → ℕ → Option UnderWay
    pub none_yet : (h : ℕ) → under 0 h ≡ None
    pub fits : (es rest : List (EventOf Call Outside)) → es ++ rest ≡ events
        → (h : ℕ) → Fits ((run L es (fresh L start)).running h) (under (length es) h)
    pub leads_on : (es : List (EventOf Call Outside)) (e : EventOf Call Outside) (rest : List (EventOf Call Outside))
        → es ++ e ∷ rest ≡ events
        → let s = run L es (fresh L start) in EventDoes e s (makes L e s) (under (length es)) (under (suc (length es)))

-- So an operation that acts first places, in its first step, what its mark makes at an answer that it has from there
-- on, and nothing after that. One that acts last places, in the step in which its program ends, what its mark makes
-- at the answer that this ends with, and nothing before.
abbrev pub StepsPlaceInTime : Type 0
StepsPlaceInTime =
    (sizes : Super) (h : ℕ) (x : Outside) (s : State (block_calls sizes)) (made : Made (block_calls sizes)) (was now : ℕ → Option UnderWay)
    → (r : RunsAStep sizes h x s made was now)
    → PlacesAt sizes h x s made was now (time_of r.under.op) (none_ran r.under.ran) r (r.rest r.answer)

module _ {D : Type 0} (contents : D → List (List ℕ)) (failures : D → ℕ) where
  -- So it is in each history of a run of this world, if the world is as a mount left it.
  abbrev pub MovesAreMadeAsOperationsAct : WorldOf D → Type 0
  MovesAreMadeAsOperationsAct w =
      (device : D) (events : List Event) (came : List Came) (new : HartsOf D) (made : List (EventOf Call Outside))
      → IsMounted contents failures device w → IsHistory contents failures w.sizes w.harts events came new made
      → let now = w.harts.core.log.cache.device in
      GoesOnAsItActs w.sizes (first (contents now) (failures now)) made

-- Over a device that never fails no event is a stop.
use Rattle.console.proofs.Vocabulary.{◌≡◌, ℕ, ◌+◌, min, arith, Bool, true, false, List, Option, Some, None, Err, subst, most_faults, Super, Call, Stop, Ret, Do, ExecResult, Waits, Ran, Stops, exec_result_in, EventOf as Event, Start, Step, Began, Refuses, Begins, OutcomeOf as Outcome, Started, Refused, WasIdle, DidWait, DidRun, DidEnd, DidStop, WasStopped, Plain, PlainMade, UnmarkedProgram, plain_makes, plain_start, plain_begun, plain_step, plain_unless, plain_prog, plain_tried, plain_moved, Kind, Outside, State, Op, Answer, exec, kind_of, Refusal, SharedState, exec_shared, block_calls, block_code, Came, came_of, calls_of, flow_of, SessionOf, EventOfCall, Happens}
use Rattle.plain_tree.specs.declared.answer.Reply.{Reply}
use Rattle.hart_core.specs.declared.events.Came.TheVariants as came
use Rattle.hart_core.specs.declared.outcome.Outcome.TheVariants as outcome
use Rattle.hart_core.specs.declared.outcome.Stop.TheVariants as stops
use Rattle.console.specs.declared.fault.ConsoleFault.TheVariants as faults
use Rattle.console.proofs.Failing.{Raises, exec_raises}

-- ---- an event

-- the device has failed once more when an operation stops
abbrev RaisesShared : {A : Type 0} → ℕ → ExecResult A SharedState → Type 0
RaisesShared n Waits = Unit {0}
RaisesShared n (Ran a s) = Unit {0}
RaisesShared n (Stops s) = s.state.log.failures ≡ min (n + 1) most_faults

shared_raises : {A : Type 0} (n : ℕ) (s : SharedState) (d : ExecResult A State) → Raises n d → RaisesShared n (exec_result_in (λ t. record s { state = t }) d)
shared_raises n s Waits raises = tt
shared_raises n s (Ran a t) raises = tt
shared_raises n s (Stops t) raises = raises

module _ (sizes : Super) where
  abbrev Harts : Type 0
  Harts = Plain (block_calls sizes) (block_code sizes)

  -- in these harts, which haven't stopped, the event has this outcome
  abbrev pub CalmBy : Harts → Outcome Kind Reply Refusal → Harts → Type 0
  CalmBy p Started a = a.stopped ≡ false
  CalmBy p (Refused why) a = a.stopped ≡ false
  CalmBy p WasIdle a = a.stopped ≡ false
  CalmBy p DidWait a = a.stopped ≡ false
  CalmBy p (DidRun kind) a = a.stopped ≡ false
  CalmBy p (DidEnd reply) a = a.stopped ≡ false
  CalmBy p DidStop a = a.shared.state.log.failures ≡ min (p.shared.state.log.failures + 1) most_faults
  CalmBy p WasStopped a = ⊥

  abbrev Calm : Harts → PlainMade (block_calls sizes) (block_code sizes) → Type 0
  Calm p m = CalmBy p m.came m.after

  moved_calm : (h : ℕ) (p : Harts) (kind : Kind) (q : UnmarkedProgram (block_calls sizes)) (t : SharedState) → p.stopped ≡ false → Calm p (plain_moved (block_calls sizes) (block_code sizes) h p kind q t)
  moved_calm h p kind (Ret reply) t is = is
  moved_calm h p kind (Do op m k) t is = is

  tried_calm : (h : ℕ) (p : Harts) (op : Op) (k : Answer op → UnmarkedProgram (block_calls sizes)) (d : ExecResult (Answer op) SharedState) → RaisesShared p.shared.state.log.failures d → p.stopped ≡ false
      → Calm p (plain_tried (block_calls sizes) (block_code sizes) h p op k d)
  tried_calm h p op k Waits raises is = is
  tried_calm h p op k (Ran a t) raises is = moved_calm h p (kind_of op a) (k a) t is
  tried_calm h p op k (Stops t) raises is = raises

  prog_calm : (h : ℕ) (x : Outside) (p : Harts) (q : UnmarkedProgram (block_calls sizes)) → p.stopped ≡ false → Calm p (plain_prog (block_calls sizes) (block_code sizes) h x p q)
  prog_calm h x p (Ret reply) is = is
  prog_calm h x p (Do op m k) is = tried_calm h p op k (exec_shared h x op p.shared) (shared_raises _ p.shared (exec h x op p.shared.state) (exec_raises h x p.shared.state op)) is

  unless_calm : (h : ℕ) (x : Outside) (p : Harts) (b : Bool) (q : UnmarkedProgram (block_calls sizes)) → b ≡ false → p.stopped ≡ false → Calm p (plain_unless (block_calls sizes) (block_code sizes) h x p b q)
  unless_calm h x p true q unstopped is = absurd (cc unstopped)
  unless_calm h x p false q unstopped is = prog_calm h x p q is

  step_calm : (h : ℕ) (x : Outside) (p : Harts) (o : Option (UnmarkedProgram (block_calls sizes))) → p.stopped ≡ false → Calm p (plain_step (block_calls sizes) (block_code sizes) h x p o)
  step_calm h x p None is = is
  step_calm h x p (Some q) is = unless_calm h x p p.stopped q is is

  begun_calm : (h : ℕ) (call : Call) (p : Harts) (b : Began Refusal SharedState) → p.stopped ≡ false → Calm p (plain_begun (block_calls sizes) (block_code sizes) h call p b)
  begun_calm h call p (Refuses why) is = is
  begun_calm h call p (Begins t) is = is

  start_calm : (h : ℕ) (call : Call) (p : Harts) (o : Option (UnmarkedProgram (block_calls sizes))) → p.stopped ≡ false → Calm p (plain_start (block_calls sizes) (block_code sizes) h call p o)
  start_calm h call p None is = begun_calm h call p _ is
  start_calm h call p (Some q) is = is

  pub makes_calm : (e : Event Call Outside) (p : Harts) → p.stopped ≡ false → Calm p (plain_makes (block_calls sizes) (block_code sizes) e p)
  makes_calm (Start h call) p is = start_calm h call p (p.running h) is
  makes_calm (Step h x) p is = step_calm h x p (p.running h) is

module _ {D : Type 0} (contents : D → List (List ℕ)) (failures : D → ℕ) (none : (d : D) → failures d ≡ 0) where
  never : {P : Type 0} (a b : ℕ) → a ≡ 0 → b ≡ 0 → a ≡ min (b + 1) most_faults → P
  never a b none_a none_b rises = absurd (omega (arith, none_a, none_b, rises))

  -- the outcome of an event
  pub came_calm : (s t : SessionOf D) (x : EventOfCall) → s.world.harts.stopped ≡ false → Happens contents failures s x t → (t.world.harts.stopped ≡ false) × ((stop : Stop) → flow_of x.came ≡ Err (faults.Stopped stop) → ⊥)
  came_calm s t x still happens = by x.came (subst (λ m. CalmBy s.world.sizes (calls_of contents failures s.world.sizes s.world.harts) m.came m.after) happens.makes (makes_calm s.world.sizes _ (calls_of contents failures s.world.sizes s.world.harts) still))
    where
      by : (c : Came) → CalmBy s.world.sizes (calls_of contents failures s.world.sizes s.world.harts) (came_of c) (calls_of contents failures s.world.sizes t.world.harts) → (t.world.harts.stopped ≡ false) × ((stop : Stop) → flow_of c ≡ Err (faults.Stopped stop) → ⊥)
      by came.Started calm = (calm, λ stop e. cc e)
      by (came.Refused why) calm = (calm, λ stop e. cc e)
      by (came.Stepped outcome.Idle) calm = (calm, λ stop e. cc e)
      by (came.Stepped outcome.Waits) calm = (calm, λ stop e. cc e)
      by (came.Stepped (outcome.Ran kind)) calm = (calm, λ stop e. cc e)
      by (came.Stepped (outcome.Done reply)) calm = (calm, λ stop e. cc e)
      by (came.Stepped (outcome.Stopped stops.DeviceFault)) calm = never _ _ (none t.world.harts.core.log.cache.device) (none s.world.harts.core.log.cache.device) calm
      by (came.Stepped (outcome.Stopped stops.Halted)) calm = absurd calm

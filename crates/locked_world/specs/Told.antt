-- What a start and a step of the locked world answer, and what they make of the world.
use Rattle.std.specs.Prelude.{◌≡◌, ℕ, ◌+◌, length, Result, Ok, Err}
use Rattle.locked_world.specs.Vocabulary.{Fuse, IsFusedCall, Call, StartOf, StepOf, CallsOnce, Start, Step, Came, Outcome, Stop, came_of, outcome_of, said, shared_of, WorldOf, Makes, MayAnswer, calls_of}
use Rattle.hart_core.specs.declared.events.Came.TheVariants as came
use Rattle.hart_core.specs.declared.outcome.Outcome.TheVariants as outcome
use Rattle.hart_core.specs.declared.outcome.Stop.TheVariants as stop
use Rattle.locked_world.specs.Kept.{LockedRun, IsRun, contents, failures, device_of, with_event, replies_of}
use Rattle.locked_world.specs.declared.locked.Begun.{Begun}
use Rattle.locked_world.specs.declared.locked.Halt.{Halt}
use Rattle.locked_world.specs.declared.locked.Halt.TheVariants.{DeviceFault, Halted, NoMemory}
use Rattle.locked_world.specs.declared.locked.NotStarted.{NotStarted}
use Rattle.locked_world.specs.declared.locked.NotStarted.TheVariants.{Refused, NoMemory as NoRoom}
use Rattle.locked_world.specs.declared.locked.LockedOutcome.{LockedOutcome}
use Rattle.locked_world.specs.declared.locked.LockedOutcome.TheVariants as told

-- ---- what is made of the world

-- a start of the hart's call had this outcome, and made world v of w, without a call of the device
pub record MakesStart (w : WorldOf Fuse) (h : ℕ) (call : Call) (c : Came) (v : WorldOf Fuse) : Type 0 where
  pub makes : Makes contents failures w.sizes (StartOf h call) w.harts (came_of c) v.harts
  pub sizes : v.sizes ≡ w.sizes
  pub core : v.harts.core ≡ w.harts.core

-- a step of the hart had this outcome, and made world v of w, with at most one call of the device; what that answered
-- is possible
pub record MakesStep (w : WorldOf Fuse) (h : ℕ) (o : Outcome) (v : WorldOf Fuse) : Type 0 where
  pub makes : Makes contents failures w.sizes (StepOf h (said o (shared_of contents failures v.harts))) w.harts (outcome_of o) v.harts
  pub honest : MayAnswer contents failures w.sizes (StepOf h (said o (shared_of contents failures v.harts))) w.harts
  pub sizes : v.sizes ≡ w.sizes
  pub called : CallsOnce IsFusedCall (device_of w) (device_of v)

-- the harts' calls, and all that they share, are as they were
abbrev pub IsUnmoved : WorldOf Fuse → WorldOf Fuse → Type 0
IsUnmoved w v = calls_of contents failures w.sizes v.harts ≡ calls_of contents failures w.sizes w.harts

-- ---- what is stored of it

-- the start of a call, with this outcome, is stored, and is what was made of the world
abbrev pub Starts : LockedRun → ℕ → Call → Came → LockedRun → Type 0
Starts s h call c t = (t.stored ≡ with_event s.stored (Start h call) c) × MakesStart s.world h call c t.world

-- the same of a step
abbrev pub Steps : LockedRun → ℕ → Outcome → LockedRun → Type 0
Steps s h o t = (t.stored ≡ with_event s.stored (Step h) (came.Stepped o)) × MakesStep s.world h o t.world

-- a step of the hart waits in the world of a run: nothing is stored, and nothing has changed
abbrev pub Waits : LockedRun → ℕ → LockedRun → Type 0
Waits s h t = IsRun s × (t.stored ≡ s.stored) × MakesStep s.world h outcome.Waits t.world × IsUnmoved s.world t.world

-- ---- answers

-- the world's own stop
abbrev pub halt_for : Stop → Halt
halt_for stop.DeviceFault = DeviceFault
halt_for stop.Halted = Halted

-- a stop is the world's own, unless memory was refused
abbrev pub HaltAnswers : LockedRun → ℕ → Halt → LockedRun → Type 0
HaltAnswers s h DeviceFault t = Steps s h (outcome.Stopped stop.DeviceFault) t
HaltAnswers s h Halted t = Steps s h (outcome.Stopped stop.Halted) t
HaltAnswers s h NoMemory t = t ≡ s

-- The answer of a step of hart h, before which there was s, and t after it; the share counts a, and then b.
abbrev pub Answers : {L : _} → LockedRun → ℕ → LockedOutcome L → LockedRun → ℕ → ℕ → Type 0
Answers s h told.Idle t a b = Steps s h outcome.Idle t × (b ≡ a)
Answers s h told.Waits t a b = Waits s h t × (b ≡ a)
Answers s h (told.Ran kind) t a b = Steps s h (outcome.Ran kind) t × (b ≡ a)
Answers s h (told.Done r) t a b =
    (r.hart ≡ h) × (r.place ≡ length (replies_of h s.stored)) × Steps s h (outcome.Done r.reply) t × (b ≡ a + 1)
Answers s h (told.Stopped why) t a b = HaltAnswers s h why t × (b ≡ a)

-- why a call was not started, and what that left
abbrev pub RefusedAnswers : LockedRun → ℕ → Call → NotStarted → LockedRun → Type 0
RefusedAnswers s h call (Refused why) t = Starts s h call (came.Refused why) t × (t.world ≡ s.world)
RefusedAnswers s h call NoRoom t = t ≡ s

abbrev pub StartAnswers : {L : _} → LockedRun → ℕ → Call → Result (Begun L) (Call × NotStarted) → LockedRun → ℕ → ℕ → Type 0
StartAnswers s h call (Ok begun) t a b = (begun.hart ≡ h) × (begun.call ≡ call) × Starts s h call came.Started t × (b ≡ a + 1)
StartAnswers s h call (Err e) t a b = (e.0 ≡ call) × RefusedAnswers s h call e.1 t × (b ≡ a)

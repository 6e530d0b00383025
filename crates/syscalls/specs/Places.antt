-- The place of a hart's call, and a step of what is there.
use Rattle.std.specs.Prelude.{◌≡◌, ℕ, List, Bool, true, false, Option, Some, None}
use Rattle.syscalls.specs.Vocabulary.{Super, Reply, Call, Heard, BeginsAsking, RestOrResult, Still, stepped_at, SteppedInPlace, Waits, Ran, Done, Stopped, State, state_of, Answers, CallsOnce, Moves, LeavesTied, Kind, Core, program, lowered, nothing}
use Rattle.syscalls.specs.Machines.{Running, heard_of, running_of, RunningFits, TellsOf}

-- what is seen of a place, by whether a call is under way there
abbrev pub call_at : Bool → Running → Option Running
call_at true m = Some m
call_at false m = None

-- A call has begun there, on a disk of these sizes. All of its program is left, it has nothing in hand, and it asks
-- its first operation.
abbrev pub HasBegun : Super → Call → Option Running → Type 0
HasBegun sizes call None = ⊥
HasBegun sizes call (Some m) = (running_of m ≡ lowered sizes nothing (program sizes.version call)) × ((hart : ℕ) (s : State) → RunningFits hart s m)
    × BeginsAsking sizes nothing (program sizes.version call) m.control m.hand

-- what is left in the place: the call, or nothing once it has replied
abbrev pub left_in : SteppedInPlace Reply Kind → Running → Option Running
left_in Waits m = Some m
left_in (Ran kind) m = Some m
left_in (Done reply kind) m = None
left_in Stopped m = Some m

-- what a call heard last stays until one replies
abbrev pub KeepsLast : SteppedInPlace Reply Kind → Option Heard → Option Heard → Type 0
KeepsLast (Done reply kind) was last = Unit {0}
KeepsLast result was last = last ≡ was

-- What a step says. If it ran, it says what TellsOf has. If the call has replied, it also says that what it heard is
-- left here. Any other step leaves all as it was.
abbrev pub TellsStep : ℕ → Running → SteppedInPlace Reply Kind → Running → Option Heard → (old new : State) → Type 0
TellsStep hart m Waits left last old new = (left.control ≡ m.control) × (left.hand ≡ m.hand)
TellsStep hart m (Ran kind) left last old new = TellsOf hart m None left old new
TellsStep hart m (Done reply kind) left last old new = TellsOf hart m (Some tt) left old new × (last ≡ heard_of left)
TellsStep hart m Stopped left last old new = (left.control ≡ m.control) × (left.hand ≡ m.hand)

module _ {D : Type 0} (contents : D → List (List ℕ)) (failures : D → ℕ) (Called : D → D → Type 0) where
  -- the step of a call is the next operation of its program, and leaves this of it
  pub record StepsCall (hart : ℕ) (call left : Running) (result : SteppedInPlace Reply Kind) (last : Option Heard) (old new : Core D)
      : Type 0 where
    pub moves : Moves running_of (λ reply. reply) hart call (stepped_at left result) (state_of contents failures old)
        (state_of contents failures new)
    pub honest : Answers running_of hart call (stepped_at left result) (state_of contents failures old) (state_of contents failures new)
    pub still : Still running_of (stepped_at left result) call old new
    pub fits : RestOrResult (RunningFits hart (state_of contents failures new)) (λ _. Unit {0}) (stepped_at left result)
    pub others : LeavesTied hart (state_of contents failures old) (state_of contents failures new)
    pub called : CallsOnce Called old.log.cache.device new.log.cache.device
    pub tells : TellsStep hart call result left last (state_of contents failures old) (state_of contents failures new)

  -- the step of a place in which a call is under way; last: what one that replied has heard in its last step
  abbrev pub StepsAt : (hart : ℕ) → Option Running → Option Running → SteppedInPlace Reply Kind → (last : Option Heard) → (old new : Core D)
      → Type 0
  StepsAt hart None after result last old new = ⊥
  StepsAt hart (Some call) after result last old new =
      (left : Running) × (after ≡ left_in result left) × StepsCall hart call left result last old new

-- A call under way, with all that its hart has in hand.
use Rattle.syscalls.specs.Vocabulary.{Reply, State, P, HandFits, Heard, Machine, TellsBy, heard_if, lacks_place, lowered_left, LoweredReady, LoweredTells, Lowered}
use Rattle.std.specs.Prelude.{ℕ, Bool, false, Option, Some, None}

abbrev pub Running : Type 0
Running = Machine Lowered (Unit {0})

-- the program that is left of it
unfoldable pub running_of : Running → P Reply
running_of m = lowered_left m.control m.hand

-- it goes on from what is in hand, and that goes with the state
pub record RunningFits (hart : ℕ) (s : State) (m : Running) : Type 0 where
  pub ready : LoweredReady m.control m.hand
  pub fits : HandFits hart s m.hand

-- what the call heard in its last step
abbrev pub heard_of : Running → Option Heard
heard_of m = heard_if m.control.ended m.control.heard

-- what was claimed for a call that is under way has no place in memory, and the call doesn't hear of it yet
abbrev pub lacks_place_at : Option Running → Bool
lacks_place_at None = false
lacks_place_at (Some m) = lacks_place m.control

-- what a step of it that ran says; the call may have ended
abbrev pub TellsOf : ℕ → Running → Option (Unit {0}) → Running → (old new : State) → Type 0
TellsOf hart m out left = TellsBy lowered_left LoweredTells hart m.control m.hand out left.control left.hand

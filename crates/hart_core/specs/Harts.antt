-- What harts' machines over all that they share represent.
use Rattle.std.specs.Prelude.{◌≡◌, ℕ, Bool, List, length, Option, None, get_or, is_some, replicate}
use Rattle.hart_core.specs.Vocabulary.{hart_count, Reply, OutcomeOf, WasIdle, DidWait, DidRun, DidEnd, DidStop, WasStopped, PlaceFits, plain_at, Kind, Core, Outside, Passes, Fails, State, state_of, Running, running_of, RunningFits}
use Rattle.hart_core.specs.declared.outcome.Outcome.{Outcome}
use Rattle.hart_core.specs.declared.outcome.Outcome.TheVariants as outcome
use Rattle.hart_core.specs.declared.outcome.Stop.TheVariants as stop
use Rattle.hart_core.specs.Blocks.{blocks, code, Programs}

-- the outcome of a hart's step, in the words of the block machine
abbrev pub outcome_of : {Refusal : Type 0} → Outcome → OutcomeOf Kind Reply Refusal
outcome_of outcome.Idle = WasIdle
outcome_of outcome.Waits = DidWait
outcome_of (outcome.Ran kind) = DidRun kind
outcome_of (outcome.Done reply) = DidEnd reply
outcome_of (outcome.Stopped stop.DeviceFault) = DidStop
outcome_of (outcome.Stopped stop.Halted) = WasStopped

-- what the device answered in a step with this outcome, which left this state
abbrev pub said : Outcome → State → Outside
said outcome.Idle s = Passes
said outcome.Waits s = Passes
said (outcome.Ran kind) s = Passes
said (outcome.Done reply) s = Passes
said (outcome.Stopped stop.DeviceFault) s = Fails s.log.contents
said (outcome.Stopped stop.Halted) s = Passes

-- what a hart's machine has in hand goes with the state
abbrev pub HartFits : State → ℕ → Option Running → Type 0
HartFits s = PlaceFits (λ h m. RunningFits h s m)

abbrev pub AllFit : State → List (Option Running) → Type 0
AllFit s calls = (h : ℕ) → HartFits s h (get_or calls h None)

-- a place for each hart, and what the machines there have in hand goes with the state
pub record AreHarts (s : State) (calls : List (Option Running)) : Type 0 where
  pub long : length calls ≡ hart_count
  pub fits : AllFit s calls

-- no hart has a call
abbrev pub AreIdle : List (Option Running) → Type 0
AreIdle calls = calls ≡ replicate hart_count None

-- which harts have a call, and whom each one's last one reserves
abbrev pub busy_in : List (Option Running) → ℕ → Bool
busy_in calls h = is_some (get_or calls h None)

abbrev pub children_in : List (Option ℕ) → ℕ → Option ℕ
children_in children h = get_or children h None

-- all that harts share, whether a failure of the device has stopped them, of each hart the child that the call reserves which it began
-- last, and each hart's call
pub record HartsOf (D : Type 0) : Type 0 where
  pub core : Core D
  pub stopped : Bool
  pub children : List (Option ℕ)
  pub calls : List (Option Running)

module _ {D : Type 0} (contents : D → List (List ℕ)) (failures : D → ℕ) where
  abbrev pub shared_of : HartsOf D → State
  shared_of w = state_of contents failures w.core

  -- the same as programs
  abbrev pub programs_of : HartsOf D → Programs
  programs_of w = plain_at blocks code running_of (shared_of w) w.stopped w.calls

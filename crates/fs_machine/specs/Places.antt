-- What a step of a machine in its place says.
use Rattle.std.specs.Prelude.{◌≡◌, ℕ, List}
use Rattle.fs_machine.specs.Vocabulary.{Still, OnDone, stepped_at, SteppedInPlace}
use Rattle.atomic_programs.specs.Machines.{RestOrResult}
use Rattle.fs_machine.specs.Steps.{State, state_of}
use Rattle.fs_machine.specs.Machines.{P, Moves, Answers, CallsOnce}
use Rattle.fs_machine.specs.Tied.{LeavesTied}
use Rattle.fs_machine.specs.declared.kind.Kind.{Kind}
use Rattle.fs_machine.specs.declared.shared.Core.{Core}

module _ {D : Type 0} (contents : D → List (List ℕ)) (failures : D → ℕ) (Called : D → D → Type 0) where
  -- the step of a machine m is the next operation of its program, and leaves this in its place, or nothing once it is
  -- done. The rest goes with the state, and the result is one of those with which it ends
  pub record StepsAt {M R A : Type 0} (program : M → P A) (value : R → A) (MachineFits : ℕ → State → M → Type 0) (Ends : R → Type 0)
      (nothing : M) (hart : ℕ) (m left : M) (result : SteppedInPlace R Kind) (old new : Core D) : Type 0 where
    pub moves : Moves program value hart m (stepped_at left result) (state_of contents failures old) (state_of contents failures new)
    pub honest : Answers program hart m (stepped_at left result) (state_of contents failures old) (state_of contents failures new)
    pub still : Still program (stepped_at left result) m old new
    pub fits : RestOrResult (MachineFits hart (state_of contents failures new)) Ends (stepped_at left result)
    pub ended : OnDone result (left ≡ nothing)
    pub others : LeavesTied hart (state_of contents failures old) (state_of contents failures new)
    pub called : CallsOnce Called old.log.cache.device new.log.cache.device

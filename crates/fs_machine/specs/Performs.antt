-- What an operation that was made of the hand says.
use Rattle.std.specs.Prelude.{◌≡◌, ℕ, List}
use Rattle.fs_machine.specs.Vocabulary.{ExecResult, Waits as ItWaits, Ran as ItRan, Stops}
use Rattle.fs_machine.specs.declared.kind.Kind.{Kind}
use Rattle.fs_machine.specs.declared.shared.Core.{Core}
use Rattle.fs_machine.specs.LogPart.{Outside, Passes, Fails}
use Rattle.fs_machine.specs.Steps as steps
use Rattle.fs_machine.specs.Steps.{State, state_of, exec, kind_of}
use Rattle.fs_machine.specs.Premises.{Honest}
use Rattle.fs_machine.specs.Machines.{CallsOnce}
use Rattle.fs_machine.specs.Tied.{LeavesTied}
use Rattle.fs_machine.specs.declared.hand.Hand.{Hand}
use Rattle.fs_machine.specs.declared.op.Op.{Op}
use Rattle.fs_machine.specs.declared.op.Answer.{Answer}
use Rattle.fs_machine.specs.declared.op.Performed.{Performed}
use Rattle.fs_machine.specs.declared.op.Performed.TheVariants.{Waits, Ran, Stopped}
use Rattle.fs_machine.specs.Hands.{HandFits}
use Rattle.fs_machine.specs.Ops.{op_in, answer_in, IsAfter}

-- what the device answered
abbrev pub said : Performed → State → Outside
said Waits s = Passes
said (Ran kind) s = Passes
said Stopped s = Fails s.log.contents

-- its result
abbrev pub did_as : Op → Hand → (o : steps.Op) → Answer → Performed → State → ExecResult (steps.Answer o) State
did_as op h o told Waits s = ItWaits
did_as op h o told (Ran kind) s = ItRan (answer_in op told h o) s
did_as op h o told Stopped s = Stops s

abbrev pub IfRan : Performed → (Kind → Type 0) → Type 0
IfRan Waits P = Unit {0}
IfRan (Ran kind) P = P kind
IfRan Stopped P = Unit {0}

abbrev pub IfStays : Performed → Type 0 → Type 0 → Type 0
IfStays Waits P Q = P × Q
IfStays (Ran kind) P Q = Unit {0}
IfStays Stopped P Q = P

module _ {D : Type 0} (contents : D → List (List ℕ)) (failures : D → ℕ) (Called : D → D → Type 0) where
  -- the operation was made, or it waits and nothing has changed, or it stopped the world and nothing has changed in hand
  pub record Performs (hart : ℕ) (op : Op) (before after : Hand) (told : Answer) (did : Performed) (old new : Core D) : Type 0 where
    pub ran : exec hart (said did (state_of contents failures new)) (op_in before op) (state_of contents failures old)
        ≡ did_as op after (op_in before op) told did (state_of contents failures new)
    pub kind : IfRan did (λ kind. kind_of (op_in before op) (answer_in op told after (op_in before op)) ≡ kind)
    pub honest : Honest hart (op_in before op) (state_of contents failures old) (said did (state_of contents failures new))
    pub still : IfStays did (after ≡ before) (new ≡ old)
    pub hand : IfRan did (λ kind. IsAfter op before told after)
    pub fits : HandFits hart (state_of contents failures new) after
    pub others : LeavesTied hart (state_of contents failures old) (state_of contents failures new)
    pub called : CallsOnce Called old.log.cache.device new.log.cache.device

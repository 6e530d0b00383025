-- Controls: the rest of a program, and how it goes on.
use Rattle.std.specs.Prelude.{◌≡◌, ℕ, [], Option, Some, None}
use Rattle.fs_machine.specs.Vocabulary.{option_map, Ret, Do, asks, Ran as ItRan, GuardState, SteppedInPlace}
use Rattle.atomic_programs.specs.declared.machines.SteppedInPlace.TheVariants.{Waits, Ran, Done, Stopped}
use Rattle.fs_machine.specs.declared.kind.Kind.{Kind}
use Rattle.fs_machine.specs.LogPart.{Passes}
use Rattle.fs_machine.specs.InMemory.{Inode}
use Rattle.fs_machine.specs.Steps as steps
use Rattle.fs_machine.specs.Steps.{State, exec}
use Rattle.fs_machine.specs.Machines.{P}
use Rattle.fs_machine.specs.declared.hand.Hand.{Hand}

-- the program asks for an operation, and with these answers goes on so
abbrev pub Goes : {A : Type 0} → P A → ((o : steps.Op) → steps.Answer o) → P A → Type 0
Goes (Ret a) answer q = ⊥
Goes (Do o m k) answer q = k (answer o) ≡ q

-- what is left, or the end
abbrev pub left_after : {C O A : Type 0} → (C → Hand → P A) → (O → Hand → A) → Option O → C → Hand → P A
left_after left value None c h = left c h
left_after left value (Some out) c h = Ret (value out h)

-- the lock of an inode, with nothing loaded
abbrev pub without_record : GuardState Inode → GuardState Inode
without_record g = record g { value = record g.value { content = None } }

-- what is in hand, but for what the inodes have, and for numbers of which one is to be claimed
abbrev pub bare : Hand → Hand
bare h = record h { one = option_map without_record h.one; two = option_map without_record h.two; numbers = []; count = 0 }

-- ---- what a step tells

module _ {C O A : Type 0} (left : C → Hand → P A)
    (Tells : C → Hand → ((o : steps.Op) → steps.Answer o) → Option O → C → Hand → Type 0) where
  -- The operation that the program asked for had this answer, by which the control tells so.
  pub record TellsBy (hart : ℕ) (before : C) (h : Hand) (out : Option O) (after : C) (k : Hand) (old new : State) : Type 0 where
    pub answer : (o : steps.Op) → steps.Answer o
    pub ran : (o : steps.Op) → asks (left before h) ≡ Some o → exec hart Passes o old ≡ ItRan (answer o) new
    pub tells : Tells before h answer out after k

  -- so does each step that runs; any other leaves all as it was
  abbrev pub TellsAt : (hart : ℕ) → C → Hand → SteppedInPlace O Kind → C → Hand → (old new : State) → Type 0
  TellsAt hart before h Waits after k old new = (after ≡ before) × (k ≡ h)
  TellsAt hart before h (Ran kind) after k old new = TellsBy hart before h None after k old new
  TellsAt hart before h (Done out kind) after k old new = TellsBy hart before h (Some out) after k old new
  TellsAt hart before h Stopped after k old new = (after ≡ before) × (k ≡ h)

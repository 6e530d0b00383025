-- The outcomes of a run of the code.
use Rattle.std.specs.Prelude.{◌≡◌, List}
use Rattle.atomic_programs.specs.Basics.{Theory, State, Event, Outcome, AllHonest, all_asked, run, outcomes, fresh, Code, Plain, erase, all_by_kind}
use Rattle.atomic_programs.specs.Explained.{IsExplained, In}
use Rattle.atomic_programs.specs.Trace.{IsTraced, happened}

module _ (L : Theory) (C : Code L) where
  -- What was asked of a state with its history had these outcomes and led to this state of the code. There are answers
  -- from outside, all of which may be given, at which the run does so.
  pub record CameTo (s : State L) (asks : List (Event L.Call (Unit {0}))) (came : List (Outcome C.Kind L.Reply L.Refusal))
      (p : Plain L C) : Type 0 where
    pub events : List (Event L.Call L.M.Outside)
    pub are : all_asked events ≡ asks
    pub honest : AllHonest L events s
    pub outcomes_are : all_by_kind L C (outcomes L events s) ≡ came
    pub after : erase L C (run L events s) ≡ p

  -- the same from a world at rest: one list of steps explains the replies, which are those that were given
  pub record Shown (first : L.M.World) (asks : List (Event L.Call (Unit {0}))) (came : List (Outcome C.Kind L.Reply L.Refusal))
      (p : Plain L C) : Type 0 where
    pub to : CameTo (fresh L first) asks came p
    pub explained : IsExplained L (L.M.tree first) (run L to.events (fresh L first))
    pub traced : IsTraced L (λ x. In x (happened L to.events (fresh L first))) (run L to.events (fresh L first))

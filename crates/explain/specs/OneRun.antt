-- An image and a list of events fix their run in memory: whatever is said of one such run holds of each.
use Rattle.std.specs.Prelude.{◌≡◌, ℕ, List}
use Rattle.run_laws.specs.OneList.{list_of}
use Rattle.explain.specs.Vocabulary.{Call, Event, EventOf, Outside, Placed, blocks_of}
use Rattle.explain.specs.Explained.{FindsNoRoom, HasClimbed, IsOneOf, OwnsRun, RoomIn, RunOn, never}

-- Two runs of these events on this image. Their outcomes are the same, and so are the lists of their histories. If each
-- step of one found room, each of the other did.
pub record Agree (image : List ℕ) (events : List Event) (one other : RunOn image events) : Type 0 where
  pub outcomes : one.outcomes ≡ other.outcomes
  pub lists : (a b : List (EventOf Call Outside)) → IsOneOf image events one a → IsOneOf image events other b
      → list_of blocks_of never one.world a ≡ list_of blocks_of never other.world b
  pub room : (a b : List (EventOf Call Outside)) → IsOneOf image events one a → IsOneOf image events other b
      → RoomIn image events one a → RoomIn image events other b

abbrev pub AnyRunsAgree : Type 0
AnyRunsAgree = (image : List ℕ) (events : List Event) (one other : RunOn image events) → Agree image events one other

-- If this is so of some run of these events on this image, it is so of each.
abbrev pub HoldsOfEach : (image : List ℕ) (events : List Event) (So : Type 0) → (So → RunOn image events) → Type 0
HoldsOfEach image events So run_of = So → (run : RunOn image events) → (so : So) × (run_of so ≡ run)

-- So the list is that of each run ..
abbrev pub ListsAreOfEachRun : Type 0
ListsAreOfEachRun =
    (image : List ℕ) (events : List Event) (list : List Placed)
    → HoldsOfEach image events (OwnsRun image events list) (λ o. o.run)

-- .. and a step of each finds no room, or a path of each climbs.
abbrev pub RefusalsAreOfEachRun : Type 0
RefusalsAreOfEachRun =
    (image : List ℕ) (events : List Event)
    → HoldsOfEach image events (FindsNoRoom image events) (λ o. o.run) × HoldsOfEach image events (HasClimbed image events) (λ o. o.run)

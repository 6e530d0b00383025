-- What a run of events on an image is explained by, and why it isn't.
use Rattle.std.specs.Prelude.{◌≡◌, ◌≤◌, ℕ, true, false, List, length, MatchResult, Option, Some, Result, Vec}
use Rattle.run_laws.specs.OneList.{AgreesWithTheList, list_of}
use Rattle.kept_histories.specs.Keeps.{KeepsRun}
use Rattle.explain.specs.Vocabulary.{Global, KeptTree, nothing_kept, ended, some_lacks_place, blocks_of, Call, Placed, Explains, MountFault, IsFirstDamage, IsWellFormed, tree_in, version_in, EventOf, Outside, Came, Event, HartsOf, FoundRoom, HasHistory, IsHistory, IsMounted, trace_in, WorldOf, any_climbs, any_full}
use Rattle.image_tree.specs.declared.fault.MountFault.TheVariants as faults
use Rattle.explain.specs.Keeps.{HandsOut, IsRefusedBy}
use Rattle.explain.specs.declared.refused.ExplainRefused.{ExplainRefused}
use Rattle.explain.specs.declared.refused.ExplainRefused.TheVariants as refused

-- a memory never fails
abbrev pub never : List ℕ → ℕ
never d = 0

-- the world is as a mount of a disk in memory with these bytes leaves it
pub record StartsOn (image : List ℕ) (w : WorldOf (List ℕ)) : Type 0 where
  pub well : IsWellFormed (blocks_of image)
  pub mounted : IsMounted blocks_of never image w

-- A run of these events on a disk in memory with these bytes: the world as a mount leaves it, the events' outcomes,
-- and the harts that they leave.
pub record RunOn (image : List ℕ) (events : List Event) : Type 0 where
  pub world : WorldOf (List ℕ)
  pub outcomes : List Came
  pub new : HartsOf (List ℕ)
  pub starts : StartsOn image world
  pub history : HasHistory blocks_of never world.sizes world.harts events outcomes new

-- What a keeper has that noted each event of the run, from the image's tree on, and its end.
pub record KeepsToTheEnd (image : List ℕ) (events : List Event) (r : RunOn image events) (k : KeptTree) : Type 0 where
  pub kept : KeptTree
  pub keeps : KeepsRun blocks_of never r.world.sizes r.world.harts (nothing_kept (version_in (blocks_of image)) (tree_in (blocks_of image))) events r.outcomes r.new kept
  pub is : k ≡ ended (some_lacks_place r.new) kept

-- .. if it was never refused memory
abbrev pub HasKept : (image : List ℕ) (events : List Event) → RunOn image events → Option KeptTree → Type 0
HasKept image events r o = (k : KeptTree) → o ≡ Some k → KeepsToTheEnd image events r k

module _ (image : List ℕ) (events : List Event) (r : RunOn image events) where
  abbrev pub IsOneOf : List (EventOf Call Outside) → Type 0
  IsOneOf history = IsHistory blocks_of never r.world.sizes r.world.harts events r.outcomes r.new history

  abbrev pub RoomIn : List (EventOf Call Outside) → Type 0
  RoomIn history = FoundRoom blocks_of never r.world history

  -- in each history of the run each step found room
  abbrev pub EachFoundRoom : Type 0
  EachFoundRoom = (history : List (EventOf Call Outside)) → IsOneOf history → RoomIn history

  -- .. or in each of them some step found none
  abbrev pub NeverFoundRoom : Type 0
  NeverFoundRoom = (history : List (EventOf Call Outside)) → IsOneOf history → RoomIn history → ⊥

-- Each step of such a run found room, and no path of a call that it started has the element "..". The list explains
-- what the run shows of calls, from the image's tree. It is the run's own: that of each of its histories. If the run
-- stops at any event, the list so far is a beginning of it. Then the disk's tree is what has names in the tree after a
-- beginning of it.
pub record OwnsRun (image : List ℕ) (events : List Event) (list : List Placed) : Type 0 where
  pub run : RunOn image events
  pub room : EachFoundRoom image events run
  pub flat : any_climbs (trace_in events run.outcomes).calls ≡ false
  pub explains : Explains (version_in (blocks_of image)) (tree_in (blocks_of image)) (trace_in events run.outcomes) list
  pub own : (history : List (EventOf Call Outside)) → IsOneOf image events run history
      → list ≡ list_of blocks_of never run.world history
  pub stops : (history : List (EventOf Call Outside)) → IsOneOf image events run history → (k : ℕ) → k ≤ length events
      → AgreesWithTheList blocks_of never (tree_in (blocks_of image)) run.world events run.outcomes history k

-- A step of such a run found no room, also of a call that hasn't replied.
pub record FindsNoRoom (image : List ℕ) (events : List Event) : Type 0 where
  pub run : RunOn image events
  pub full : NeverFoundRoom image events run

-- Each step of such a run found room, and no reply says otherwise; and the path of a call that it started has the element "..".
pub record HasClimbed (image : List ℕ) (events : List Event) : Type 0 where
  pub run : RunOn image events
  pub room : EachFoundRoom image events run
  pub told : any_full (trace_in events run.outcomes).calls ≡ false
  pub climbs : any_climbs (trace_in events run.outcomes).calls ≡ true

-- no world was mounted: the image's first damage, or want of memory
abbrev pub IsRefusedMount : List ℕ → ExplainRefused → Type 0
IsRefusedMount image refused.NoMemory = Unit {0}
IsRefusedMount image (refused.Damaged d) = IsFirstDamage (blocks_of image) d
IsRefusedMount image refused.FullSeen = ⊥
IsRefusedMount image refused.Climbs = ⊥

abbrev pub IsRefusedSo : List ℕ → List Event → ExplainRefused → Type 0
IsRefusedSo image events refused.NoMemory = Unit {0}
IsRefusedSo image events (refused.Damaged d) = IsFirstDamage (blocks_of image) d
IsRefusedSo image events refused.FullSeen = FindsNoRoom image events
IsRefusedSo image events refused.Climbs = HasClimbed image events

-- ---- of a run that was made and noted

-- the list of this very run
pub record OwnsThis (image : List ℕ) (events : List Event) (r : RunOn image events) (list : List Placed) : Type 0 where
  pub owns : OwnsRun image events list
  pub this : owns.run ≡ r

-- why there is none: in each history of this very run a step found no room; or each found room, and a path climbs
abbrev pub IsRefusedOf : (image : List ℕ) (events : List Event) → RunOn image events → ExplainRefused → Type 0
IsRefusedOf image events r refused.NoMemory = Unit {0}
IsRefusedOf image events r (refused.Damaged d) = ⊥
IsRefusedOf image events r refused.FullSeen = NeverFoundRoom image events r
IsRefusedOf image events r refused.Climbs =
    EachFoundRoom image events r × (any_full (trace_in events r.outcomes).calls ≡ false) × (any_climbs (trace_in events r.outcomes).calls ≡ true)

abbrev pub IsToldOf : (image : List ℕ) (events : List Event) → RunOn image events → Result (Vec Placed Global) ExplainRefused → Type 0
IsToldOf image events r told = MatchResult told (λ v. OwnsThis image events r v.items) (λ why. IsRefusedOf image events r why)

-- the keeper's list, or why it isn't handed out
abbrev pub IsHandedOut : Option KeptTree → List Event → List Came → Result (Vec Placed Global) ExplainRefused → Type 0
IsHandedOut o events outcomes told =
    MatchResult told (λ v. HandsOut o events outcomes v.items) (λ why. IsRefusedBy o events outcomes why)

-- the refusal for a mount in memory that was refused
abbrev pub refused_by : MountFault → ExplainRefused
refused_by (faults.Damaged d) = refused.Damaged d
refused_by faults.DeviceFault = refused.NoMemory
refused_by faults.NoMemory = refused.NoMemory

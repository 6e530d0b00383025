-- No room is found only if there is none.
use Rattle.std.specs.Prelude.{◌≡◌, ◌⊎◌, ℕ, ◌<◌, ◌≤◌, List, [], ◌∷◌, length, Option, Some, IsSome}
use Rattle.std.specs.List.{All}
use Rattle.run_laws.specs.Vocabulary.{Super, sizes_of, Full, Blocks, Descriptors, Directory, DiskInodes, MemInodes, OpenFiles, Call, Node, all_slots, descriptor_count, hart_count, EventOf, PlacedStep, fresh, run, Outside, file_count, place_count, referenced, slot_limit, Op, World, Enter, first_world, first, Came, Event, HartsOf, IsHistory, IsMounted, WorldOf, Version}
use Rattle.run_laws.specs.Laws.{operations_made}
use Rattle.call_programs.specs.Wanted.{wanted}
use Rattle.run_laws.specs.WholeInodes.{IsStep, Operation, lowered_inode_calls, unreserved}

-- ---- when there is none

-- as many inodes are referred to as have a place in memory: all fifty, or more
abbrev pub AllPlacesAreTaken : World → Type 0
AllPlacesAreTaken w = place_count ≤ referenced w

-- an open file has this place of the table, or a hart has taken it for one
abbrev pub IsTaken : World → ℕ → Type 0
IsTaken w k = IsSome (w.files k) ⊎ ((g : ℕ) × (g < hart_count) × ((w.desks g).hand ≡ Some k))

-- so it is with each of the hundred places
abbrev pub AllOpenFilesAreTaken : World → Type 0
AllOpenFilesAreTaken w = (k : ℕ) → k < file_count → IsTaken w k

-- each of the hart's sixteen descriptors has an open file
abbrev pub AllDescriptorsAreTaken : World → ℕ → Type 0
AllDescriptorsAreTaken w h = (fd : ℕ) → fd < descriptor_count → IsSome ((w.desks h).fds fd)

-- a directory has the most slots of its version, and each is used
abbrev pub IsFullDirectory : Version → Option Node → Type 0
IsFullDirectory version v = (length (all_slots v) ≡ slot_limit version) × All IsSome (all_slots v)

-- so is the directory in which the operation enters a name
abbrev pub EntersInFull : Version → World → Op → Type 0
EntersInFull version w (Enter d e n) = IsFullDirectory version (w.disk d)
EntersInFull version w op = ⊥

-- In this world hart h, which makes this operation, has no room of this kind. Of blocks and of inodes on disk nothing is said here: they
-- are looked for in steps of their own, one after the other.
abbrev pub HasNone : Version → World → ℕ → Op → Full → Type 0
HasNone version w h op MemInodes = AllPlacesAreTaken w
HasNone version w h op OpenFiles = AllOpenFilesAreTaken w
HasNone version w h op Descriptors = AllDescriptorsAreTaken w h
HasNone version w h op Blocks = Unit {0}
HasNone version w h op DiskInodes = Unit {0}
HasNone version w h op Directory = EntersInFull version w op

-- what the operation wanted and didn't find, this world doesn't have
abbrev pub WantsWhatIsnt : Version → World → ℕ → Operation → Type 0
WantsWhatIsnt version w h e = (room : Full) → wanted e.op e.answer ≡ Some room → HasNone version w h e.op room

-- The operations lead from t to u, one after the other; and each is made in a world that doesn't have what it wanted and didn't find.
abbrev pub LeadsThroughWants : (sizes : Super) → World → List (PlacedStep (lowered_inode_calls sizes)) → World → Type 0
LeadsThroughWants sizes t [] u = u ≡ t
LeadsThroughWants sizes t (e ∷ es) u =
    (next : World) × IsStep sizes.version t e.hart e.step next × WantsWhatIsnt sizes.version t e.hart e.step
    × LeadsThroughWants sizes next es u

module _ (disk : List (List ℕ)) (failures : ℕ) (events : List (EventOf Call Outside)) where
  -- so do the operations on whole inodes that the events make on this mounted disk, from its tree to what is seen at the end
  abbrev pub WantsOnlyWhatIsnt : Type 0
  WantsOnlyWhatIsnt =
      let s = run (lowered_inode_calls (sizes_of disk)) events (fresh (lowered_inode_calls (sizes_of disk)) (first disk failures)) in
      LeadsThroughWants (sizes_of disk) (first_world disk) (operations_made (sizes_of disk) s) (unreserved s.world.seen)

module _ {D : Type 0} (contents : D → List (List ℕ)) (failures : D → ℕ) where
  -- It holds of this world if it is as a mount left it, and of each history of a run. An operation is answered that
  -- there is no room only in a world that has none: the world to which the operations before it lead.
  abbrev pub NoRoomOnlyWhereThereIsNone : WorldOf D → Type 0
  NoRoomOnlyWhereThereIsNone w =
      (device : D) (events : List Event) (came : List Came) (new : HartsOf D) (history : List (EventOf Call Outside))
      → IsMounted contents failures device w → IsHistory contents failures w.sizes w.harts events came new history
      → let now = w.harts.core.log.cache.device in
      WantsOnlyWhatIsnt (contents now) (failures now) history

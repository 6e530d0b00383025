-- What is kept under a lock: an image, a fuse, and the events with their outcomes, beside the world that they made;
-- and what remains of it.
use Rattle.std.specs.Prelude.{◌≡◌, ◌⊎◌, ℕ, ◌+◌, ◌<◌, ◌==◌, if◌then◌else◌, List, [], ◌∷◌, ◌++◌, length, Option, None, slice_index_or, get_or}
use Rattle.locked_world.specs.Vocabulary.{blocks_of, ComesByCalls, Fuse, IsFusedCall, tree_in, version_in, Reply, Call, Shown, Started, Replied, Other, Event, Came, all_shown, trace_in, IsMounted, HasHistory, FoundRoom, NoneClimbs, OneHart, IsExplained, WorldOf, calls_of}
use Rattle.locked_world.specs.HandedBack.{SpareFits}

pub record StoredRun : Type 0 where
  pub image : List ℕ
  pub fuse : ℕ
  pub events : List Event
  -- the outcome of each of them, in their order
  pub outcomes : List Came

-- what is stored, and the world that it has made
pub record LockedRun : Type 0 where
  pub stored : StoredRun
  pub world : WorldOf Fuse

-- what was stored, and the disk that its world left
pub record ClosedRun : Type 0 where
  pub stored : StoredRun
  pub disk : List ℕ

-- nothing happened yet
abbrev pub opened : List ℕ → ℕ → StoredRun
opened image fuse = record { image = image; fuse = fuse; events = []; outcomes = [] }

-- one event more
abbrev pub with_event : StoredRun → Event → Came → StoredRun
with_event s e c = record { image = s.image; fuse = s.fuse; events = s.events ++ e ∷ []; outcomes = s.outcomes ++ c ∷ [] }

-- ---- the world

-- a disk with a fuse, as a device
abbrev pub contents : Fuse → List (List ℕ)
contents d = blocks_of d.bytes

abbrev pub failures : Fuse → ℕ
failures d = d.faults

-- the image on a disk whose fuse passes a count of calls
abbrev pub disk_of : StoredRun → Fuse
disk_of s = record { bytes = s.image; left = s.fuse; faults = 0 }

-- the device of a world
abbrev pub device_of : WorldOf Fuse → Fuse
device_of w = w.harts.core.log.cache.device

-- calls lead from the image, on a disk with that fuse, to this one
abbrev pub ComesFromImage : StoredRun → Fuse → Type 0
ComesFromImage s d = ComesByCalls IsFusedCall (disk_of s) d

-- what a world leaves that ends: what is stored, and its own disk
abbrev pub closed_of : LockedRun → ClosedRun
closed_of s = record { stored = s.stored; disk = (device_of s.world).bytes }

-- A run of what is stored: a world was mounted on the disk, the events had their outcomes, one after the other, and
-- made this world of it.
pub record IsRunOf (s : StoredRun) (w : WorldOf Fuse) : Type 0 where
  pub first : WorldOf Fuse
  pub mounted : IsMounted contents failures (disk_of s) first
  pub history : HasHistory contents failures first.sizes first.harts s.events s.outcomes w.harts
  pub sizes : w.sizes ≡ first.sizes

-- the world is that of a run of what is stored
abbrev pub IsRun : LockedRun → Type 0
IsRun s = IsRunOf s.stored s.world

-- the world of a run has this disk, to which calls lead from the image
abbrev pub LeavesDisk : StoredRun → List ℕ → Type 0
LeavesDisk s bytes = (w : WorldOf Fuse) × IsRunOf s w × (bytes ≡ (device_of w).bytes) × ComesFromImage s (device_of w)

-- In this run of what is stored, if no step of it found no room, one list of tree steps explains all calls that were
-- started, from the image's tree. That holds as long as no path climbs, or if one hart has made all calls.
abbrev pub OneListExplains : (s : StoredRun) (w : WorldOf Fuse) → IsRunOf s w → Type 0
OneListExplains s w run =
    FoundRoom contents failures run.first run.history.0 → NoneClimbs (trace_in s.events s.outcomes) ⊎ OneHart (trace_in s.events s.outcomes)
    → IsExplained (version_in (blocks_of s.image)) (tree_in (blocks_of s.image)) (trace_in s.events s.outcomes)

-- A run left this disk; and whichever run it is, it is explained.
abbrev pub HasOneHistory : ClosedRun → Type 0
HasOneHistory c = LeavesDisk c.stored c.disk × ((w : WorldOf Fuse) (run : IsRunOf c.stored w) → OneListExplains c.stored w run)

-- ---- calls and replies

abbrev pub shown_in : StoredRun → List Shown
shown_in s = all_shown s.events s.outcomes

abbrev pub replied_by : ℕ → Shown → List Reply
replied_by h (Started k call) = []
replied_by h (Replied k reply) = if h == k then reply ∷ [] else []
replied_by h Other = []

abbrev pub replies_in : ℕ → List Shown → List Reply
replies_in h [] = []
replies_in h (s ∷ ss) = replied_by h s ++ replies_in h ss

-- the replies of a hart, in their order
abbrev pub replies_of : ℕ → StoredRun → List Reply
replies_of h s = replies_in h (shown_in s)

abbrev pub counts : Shown → ℕ
counts (Started h call) = 1
counts (Replied h reply) = 1
counts Other = 0

abbrev pub count_in : List Shown → ℕ
count_in [] = 0
count_in (s ∷ ss) = counts s + count_in ss

-- the calls that were started, and the replies, together
abbrev pub count_of : StoredRun → ℕ
count_of s = count_in (shown_in s)

-- ---- all that is kept

-- the ledger's total, how many replies each hart has had, and the copies that are laid by
pub record IsKept (s : StoredRun) (total : ℕ) (w : WorldOf Fuse) (given : List ℕ) (spares : List (Option Call)) : Type 0 where
  pub run : IsRunOf s w
  pub calls : ComesFromImage s (device_of w)
  pub total_is : total ≡ count_of s
  pub eight : length spares ≡ 8
  pub given_are : (h : ℕ) → h < 8 → slice_index_or given h 0 ≡ length (replies_of h s)
  pub spares_fit : (h : ℕ) → SpareFits (get_or spares h None) ((calls_of contents failures w.sizes w.harts).running h)

-- What holds of every log.
use Rattle.std.specs.Prelude.{◌≡◌, ◌≢◌, ◌⊎◌, ℕ, ◌+◌, ◌-◌, ◌<◌, ◌≤◌, ◌^◌, min, List, [], length, slice_index, Option, None}
use Rattle.group_log.specs.Vocabulary.{Super, sizes_of, logged, IsOutsideLog, u32_at, super_block, super_magic_at, magic_of, block_at, count_of, SeatState, CacheState, is_pinned, seat_of, seen_in}
use Rattle.group_log.specs.declared.limits.TheConstants.{MOST_LOGGED, PLACES}
use Rattle.group_log.specs.declared.phase.Phase.{Phase}
use Rattle.group_log.specs.declared.phase.Phase.TheVariants.{Open, Staging, Installing, Halted}
use Rattle.group_log.specs.Group.{joined, rooms}
use Rattle.group_log.specs.Pins.{HasRecorded}

-- A log, to its callers: the cache, the places of the parts of its disk, and the recorded blocks in the order of
-- first recording. For each hart what its transaction has added to them, and how far the commit is.
pub record LogState (D : Type 0) : Type 0 where
  pub cache : CacheState D
  pub sizes : Super
  pub group : List ℕ
  pub members : List (Option ℕ)
  pub phase : Phase

-- how many blocks a group may have
abbrev pub limit_of : Super → ℕ
limit_of sizes = min MOST_LOGGED (sizes.nlog - 1)

-- the log is on the disk, after the superblock
pub record IsPlaced (disk : List (List ℕ)) (sizes : Super) : Type 0 where
  pub sizes_are : sizes_of disk ≡ sizes
  pub behind : super_block < sizes.logstart
  pub some : 0 < sizes.nlog
  pub within : sizes.logstart + sizes.nlog ≤ length disk
  pub counted : length disk < 2 ^ 32
  -- and before the inodes, on a disk that has the superblock's sign and all its blocks
  pub is_super : u32_at (block_at disk super_block) super_magic_at ≡ magic_of sizes.version
  pub inodes : sizes.logstart + sizes.nlog ≤ sizes.inodestart
  pub sized : sizes.size ≤ length disk

-- a block that may be recorded
pub record IsHome (disk : List (List ℕ)) (sizes : Super) (b : ℕ) : Type 0 where
  pub outside : IsOutsideLog sizes b
  pub no_super : b ≢ super_block
  pub within : b < length disk
  pub front : sizes.inodestart ≤ b
  pub sized : b < sizes.size

-- if the blocks are seen so: each block outside the log that isn't among the group's from its n-th on is on the disk
-- as it is seen
abbrev pub CleanFrom : Super → List (List ℕ) → (ℕ → List ℕ) → List ℕ → ℕ → Type 0
CleanFrom sizes disk see group n =
    (b : ℕ) → IsOutsideLog sizes b → ((k : ℕ) → n ≤ k → k < length group → slice_index group k ≢ b) → block_at disk b ≡ see b

-- the log has copies of the group's first n blocks as they are seen
abbrev pub HasCopies : Super → List (List ℕ) → (ℕ → List ℕ) → List ℕ → ℕ → Type 0
HasCopies sizes disk see group n = (k : ℕ) → k < n → block_at disk (sizes.logstart + 1 + k) ≡ see (slice_index group k)

abbrev pub DiskFits : Super → List (List ℕ) → (ℕ → List ℕ) → List ℕ → Phase → Type 0
DiskFits sizes disk see group Open = (logged disk ≡ []) × CleanFrom sizes disk see group 0
DiskFits sizes disk see group (Staging i) =
    (i ≤ length group) × (logged disk ≡ []) × CleanFrom sizes disk see group 0 × HasCopies sizes disk see group i
DiskFits sizes disk see group (Installing i) =
    (i ≤ length group) × (logged disk ≡ group) × CleanFrom sizes disk see group i × HasCopies sizes disk see group (length group)
DiskFits sizes disk see group Halted = (logged disk ≡ []) ⊎ (logged disk ≡ group)

-- no buffer has a block of the log; the group's blocks from the n-th on are pinned, and no others
pub record PinsFrom (sizes : Super) (seats : List SeatState) (group : List ℕ) (n : ℕ) : Type 0 where
  pub apart : (b : ℕ) → sizes.logstart ≤ b → b < sizes.logstart + sizes.nlog → seat_of b seats ≡ None
  pub pinned : (k : ℕ) → n ≤ k → k < length group → HasRecorded seats (slice_index group k)
  pub few : count_of is_pinned seats + n ≤ length group

abbrev pub PinsFit : Super → List SeatState → List ℕ → Phase → Type 0
PinsFit sizes seats group Open = PinsFrom sizes seats group 0
PinsFit sizes seats group (Staging i) = PinsFrom sizes seats group 0
PinsFit sizes seats group (Installing i) = PinsFrom sizes seats group i
PinsFit sizes seats group Halted = Unit {0}

-- while a commit runs nobody is in a transaction
abbrev pub IsQuiet : Phase → List (Option ℕ) → Type 0
IsQuiet Open members = Unit {0}
IsQuiet (Staging i) members = joined members ≡ 0
IsQuiet (Installing i) members = joined members ≡ 0
IsQuiet Halted members = Unit {0}

pub record IsSoundLog (disk : List (List ℕ)) (seats : List SeatState) (sizes : Super) (group : List ℕ) (members : List (Option ℕ))
    (phase : Phase) : Type 0 where
  pub place : IsPlaced disk sizes
  pub room : length group + rooms members ≤ limit_of sizes
  pub eight : length members ≡ PLACES
  pub quiet : IsQuiet phase members
  pub homes : (k : ℕ) → k < length group → IsHome disk sizes (slice_index group k)
  pub distinct : (j k : ℕ) → j < k → k < length group → slice_index group j ≢ slice_index group k
  pub buffers : PinsFit sizes seats group phase
  pub blocks : DiskFits sizes disk (seen_in disk seats) group phase

-- what a write of the commit asks
pub record CanWrite (disk : List (List ℕ)) (seats : List SeatState) (sizes : Super) (group : List ℕ) (phase : Phase) : Type 0 where
  pub place : IsPlaced disk sizes
  pub room : length group < sizes.nlog
  pub few : length group ≤ MOST_LOGGED
  pub homes : (k : ℕ) → k < length group → IsHome disk sizes (slice_index group k)
  pub buffers : PinsFit sizes seats group phase

-- What a place of damage says of an image, and that no place before it, in the order of its check, is damaged.
use Rattle.std.specs.Prelude.{◌≡◌, ◌≢◌, ◌⊎◌, ℕ, ◌+◌, ◌-◌, ◌*◌, ◌/◌, ◌%◌, ◌<◌, ◌≤◌, min, pos, Bool, true, false, List, [], ◌∷◌, ◌++◌, length, take, filter, slice_index, slice_index_or, All, Contains, Option, Some, None}
use Rattle.damage_places.specs.Vocabulary.{Damage, Dinode, Dirent, Used, Super, Version, block_at, block_len, block_number, children_of, dirent_len_of, dot, further_names_of, gathered, inode_of, inodes_per_block, is_block, is_directory, is_live, is_live_directory, is_marked, is_node, largest_size, log_count, log_head_len, logged, magic_of, most_disk_blocks, named_by, names_of, numbers_by, numbers_of, proper_names_of, sizes_of, slot_name, slot_names, slot_number, slot_numbers, slots_in, super_block, super_magic_at, u32_at, up, IsData, IsDotDot, IsFittingSize, IsGoodType, IsOnce, HasRoot, IsFirstDamage, Reaches, UpToShort, UpToSuper, UpToSize, UpToLog, UpToTypes, UpToRoot, UpToRange, UpToOnce, UpToMarks, UpToSizes, UpToSlots, UpToTree}
use Rattle.damage_places.specs.Checks.{Passes}
use Rattle.damage_places.specs.declared.place.Check.{Check}
use Rattle.damage_places.specs.declared.place.Check.TheVariants as checks
use Rattle.damage_places.specs.declared.place.SuperRule.{SuperRule}
use Rattle.damage_places.specs.declared.place.SuperRule.TheVariants as rules
use Rattle.damage_places.specs.declared.place.LogFault.{LogFault}
use Rattle.damage_places.specs.declared.place.LogFault.TheVariants as logs
use Rattle.damage_places.specs.declared.place.Naming.{Naming}
use Rattle.damage_places.specs.declared.place.InodeFault.{InodeFault}
use Rattle.damage_places.specs.declared.place.InodeFault.TheVariants as faults
use Rattle.damage_places.specs.declared.place.Place.{Place}
use Rattle.damage_places.specs.declared.place.Place.TheVariants as places
use Rattle.image_tree.specs.declared.fault.Damage.TheVariants as damages

-- ---- the superblock

abbrev pub Keeps : Super → SuperRule → Type 0
Keeps s rules.Size = s.size ≤ most_disk_blocks
Keeps s rules.LogStart = 2 ≤ s.logstart
Keeps s rules.LogLength = 11 ≤ s.nlog
Keeps s rules.Log = s.logstart + s.nlog ≤ s.inodestart
Keeps s rules.FewInodes = 2 ≤ s.ninodes
Keeps s rules.ManyInodes = s.ninodes ≤ 65535
Keeps s rules.Inodes = s.inodestart + (s.ninodes + (inodes_per_block - 1)) / inodes_per_block ≤ s.bmapstart
Keeps s rules.Bitmap = s.bmapstart + 1 ≤ s.size

-- all rules before this one
abbrev pub KeepsBefore : Super → SuperRule → Type 0
KeepsBefore s rules.Size = Unit {0}
KeepsBefore s rules.LogStart = Keeps s rules.Size
KeepsBefore s rules.LogLength = Keeps s rules.Size × Keeps s rules.LogStart
KeepsBefore s rules.Log = Keeps s rules.Size × Keeps s rules.LogStart × Keeps s rules.LogLength
KeepsBefore s rules.FewInodes = Keeps s rules.Size × Keeps s rules.LogStart × Keeps s rules.LogLength × Keeps s rules.Log
KeepsBefore s rules.ManyInodes =
    Keeps s rules.Size × Keeps s rules.LogStart × Keeps s rules.LogLength × Keeps s rules.Log
    × Keeps s rules.FewInodes
KeepsBefore s rules.Inodes =
    Keeps s rules.Size × Keeps s rules.LogStart × Keeps s rules.LogLength × Keeps s rules.Log
    × Keeps s rules.FewInodes × Keeps s rules.ManyInodes
KeepsBefore s rules.Bitmap =
    Keeps s rules.Size × Keeps s rules.LogStart × Keeps s rules.LogLength × Keeps s rules.Log
    × Keeps s rules.FewInodes × Keeps s rules.ManyInodes × Keeps s rules.Inodes

-- ---- lists of numbers

-- the first number that isn't so
pub record IsFirstAt (Good : ℕ → Type 0) (numbers : List ℕ) (k : ℕ) : Type 0 where
  pub within : k < length numbers
  pub bad : ¬ Good (slice_index numbers k)
  pub before : (j : ℕ) → j < k → Good (slice_index numbers j)

-- two places with one number, and none twice before the second
pub record IsFirstRepeat (numbers : List ℕ) (j k : ℕ) : Type 0 where
  pub order : j < k
  pub within : k < length numbers
  pub same : slice_index numbers j ≡ slice_index numbers k
  pub before : IsOnce (take k numbers)

-- ---- the log's head

abbrev pub IsCounted : List (List ℕ) → Type 0
IsCounted disk = (log_count disk ≤ (sizes_of disk).nlog - 1) × (log_count disk ≤ log_head_len)

-- a block that may be logged
abbrev pub IsLoggable : Super → ℕ → Type 0
IsLoggable s b = (s.inodestart ≤ b) × (b < s.size)

-- what is wrong with the blocks that the log names
abbrev pub IsListFault : Super → List ℕ → LogFault → Type 0
IsListFault s blocks (logs.TooMany count) = ⊥
IsListFault s blocks (logs.Outside index block) = (block ≡ slice_index blocks index) × IsFirstAt (IsLoggable s) blocks index
IsListFault s blocks (logs.Twice first second block) =
    All (IsLoggable s) blocks × (block ≡ slice_index blocks second) × IsFirstRepeat blocks first second

abbrev pub IsLogFault : List (List ℕ) → LogFault → Type 0
IsLogFault disk (logs.TooMany count) = (count ≡ log_count disk) × (¬ IsCounted disk)
IsLogFault disk fault = IsCounted disk × IsListFault (sizes_of disk) (logged disk) fault

-- ---- blocks that are named twice

-- this number of this inode is this block
abbrev pub Names : List (List ℕ) → Naming → ℕ → Type 0
Names disk n b = (n.place < length (numbers_by disk n.inode)) × (slice_index (numbers_by disk n.inode) n.place ≡ b)

abbrev pub Precedes : Naming → Naming → Type 0
Precedes m n = (m.inode < n.inode) ⊎ ((m.inode ≡ n.inode) × (m.place < n.place))

-- the blocks that are named before this
abbrev pub named_before : List (List ℕ) → Naming → List ℕ
named_before disk n = gathered (named_by disk) (n.inode - 1) ++ filter is_block (take n.place (numbers_by disk n.inode))

-- the first of these numbers that repeats an earlier one, or one of those before, is at this place
pub record IsSecond (before numbers : List ℕ) (k : ℕ) : Type 0 where
  pub within : k < length numbers
  pub block : slice_index numbers k ≢ 0
  pub once : IsOnce (before ++ filter is_block (take k numbers))
  pub again : Contains (before ++ filter is_block (take k numbers)) (slice_index numbers k)

-- the block is named here, and before, and none before this is named twice
pub record IsRepeat (disk : List (List ℕ)) (b : ℕ) (second : Naming) : Type 0 where
  pub block : b ≢ 0
  pub low : 1 ≤ second.inode
  pub high : second.inode < (sizes_of disk).ninodes
  pub names : Names disk second b
  pub once : IsOnce (named_before disk second)
  pub again : Contains (named_before disk second) b

pub record IsShared (disk : List (List ℕ)) (b : ℕ) (first second : Naming) : Type 0 where
  pub block : b ≢ 0
  pub low : 1 ≤ first.inode
  pub high : second.inode < (sizes_of disk).ninodes
  pub order : Precedes first second
  pub names_first : Names disk first b
  pub names_second : Names disk second b
  pub before : IsOnce (named_before disk second)

abbrev pub IsSharedPlace : List (List ℕ) → Place → Type 0
IsSharedPlace disk (places.Shared block first second) = IsShared disk block first second
IsSharedPlace disk _ = ⊥

-- ---- inodes

-- what a table says that counts no further than the greatest u16
abbrev pub told : ℕ → ℕ
told n = min n 65535

-- the size of a live directory
abbrev pub IsWhole : Version → ℕ → Type 0
IsWhole v size = (2 * dirent_len_of v ≤ size) × (size % dirent_len_of v ≡ 0)

abbrev pub HasDots : ℕ → List (Option Dirent) → Type 0
HasDots i slots = (slice_index_or slots 0 None ≡ Some (Used i dot)) × IsDotDot (slice_index_or slots 1 None)

abbrev pub AreEntries : List (Option Dirent) → Type 0
AreEntries slots = All (λ slot. slot ≢ None) slots

-- the first slot of directory i that isn't an entry, or not the one that belongs there
abbrev pub IsFormFault : ℕ → List (Option Dirent) → InodeFault → Type 0
IsFormFault i slots faults.NoDot = slice_index_or slots 0 None ≢ Some (Used i dot)
IsFormFault i slots faults.NoDotDot = (slice_index_or slots 0 None ≡ Some (Used i dot)) × (¬ IsDotDot (slice_index_or slots 1 None))
IsFormFault i slots (faults.NoEntry slot) =
    HasDots i slots × (slot < length slots) × (slice_index_or slots slot None ≡ None)
    × ((j : ℕ) → j < slot → slice_index_or slots j None ≢ None)
IsFormFault i slots _ = ⊥

-- the first slot with the number of no node
abbrev pub IsNumberFault : (ℕ → Bool) → List (Option Dirent) → InodeFault → Type 0
IsNumberFault is_node slots (faults.NoNode slot number) =
    (slot < length slots) × (slot_number (slice_index_or slots slot None) ≡ number ∷ []) × (is_node number ≡ false)
    × All (λ n. is_node n ≡ true) (slot_numbers (take slot slots))
IsNumberFault is_node slots _ = ⊥

-- the first slot with the name of an earlier one
abbrev pub IsNameFault : List (Option Dirent) → InodeFault → Type 0
IsNameFault slots (faults.NameTwice first slot name) =
    (first < slot) × (slot < length slots) × (slot_name (slice_index_or slots first None) ≡ name.items ∷ [])
    × (slot_name (slice_index_or slots slot None) ≡ name.items ∷ []) × IsOnce (slot_names (take slot slots))
IsNameFault slots _ = ⊥

-- of the slots of directory i, if these numbers are those of nodes
abbrev pub IsSlotFault : (ℕ → Bool) → ℕ → List (Option Dirent) → InodeFault → Type 0
IsSlotFault is_node i slots fault =
    IsFormFault i slots fault
    ⊎ ((HasDots i slots × AreEntries slots × IsNumberFault is_node slots fault)
    ⊎ (HasDots i slots × AreEntries slots × All (λ n. is_node n ≡ true) (slot_numbers slots) × IsNameFault slots fault))

-- of live directory i, with this "..", named by so many slots past the first two, so many of them in its ".."
abbrev pub IsTreeFault : ℕ → ℕ → ℕ → ℕ → Type 0 → InodeFault → Type 0
IsTreeFault i up further proper Reach (faults.RootUp u) = (i ≡ 1) × (u ≡ up) × (up ≢ 1)
IsTreeFault i up further proper Reach (faults.RootNamed times) = (i ≡ 1) × (up ≡ 1) × (times ≡ told further) × (further ≢ 0)
IsTreeFault i up further proper Reach (faults.Named times) = (i ≢ 1) × (times ≡ told further) × (further ≢ 1)
IsTreeFault i up further proper Reach (faults.Elsewhere u) = (i ≢ 1) × (u ≡ up) × (further ≡ 1) × (proper ≢ 1)
IsTreeFault i up further proper Reach (faults.Astray u) = (i ≢ 1) × (u ≡ up) × (further ≡ 1) × (proper ≡ 1) × (¬ Reach)
IsTreeFault i up further proper Reach _ = ⊥

-- of a node that so many slots name, so many of them past the first two, and that is the ".." of so many others
abbrev pub IsCountFault : Dinode → ℕ → ℕ → ℕ → InodeFault → Type 0
IsCountFault d n further k (faults.Names links names) =
    (is_directory d ≡ false) × (links ≡ d.nlink) × (names ≡ told n) × (d.nlink ≢ pos n)
IsCountFault d n further k (faults.Children links children) =
    (is_directory d ≡ true) × (is_live d ≡ true) × (links ≡ d.nlink) × (children ≡ told k) × (d.nlink ≢ pos (1 + k))
IsCountFault d n further k (faults.DeadNamed times) =
    (is_directory d ≡ true) × (is_live d ≡ false) × (times ≡ told further) × (further ≢ 0)
IsCountFault d n further k _ = ⊥

-- a size that no node of this kind has
abbrev pub IsMisfit : Version → Dinode → InodeFault → Type 0
IsMisfit v d (faults.TooLarge size) = (size ≡ d.size) × (largest_size < d.size)
IsMisfit v d (faults.PartSlots size) =
    (size ≡ d.size) × (d.size ≤ largest_size) × (is_directory d ≡ true) × (is_live d ≡ true) × (¬ IsWhole v d.size)
IsMisfit v d _ = ⊥

-- the first block inside the size that isn't there
pub record IsHole (numbers : List ℕ) (size k : ℕ) : Type 0 where
  pub within : block_len * k < size
  pub bad : block_number numbers k ≡ 0
  pub before : (j : ℕ) → j < k → block_number numbers j ≢ 0

abbrev pub IsSizeFault : Version → List (List ℕ) → Dinode → InodeFault → Type 0
IsSizeFault v disk d (faults.Hole block size) = (size ≡ d.size) × IsFittingSize v d × IsHole (numbers_of disk d) d.size block
IsSizeFault v disk d fault = IsMisfit v d fault

-- inode i is damaged so, in the first way that its check asks about
abbrev pub IsFaultOf : Version → List (List ℕ) → ℕ → Check → InodeFault → Type 0
IsFaultOf v disk i checks.Types (faults.Type kind links) =
    (kind ≡ (inode_of disk i).kind) × (links ≡ (inode_of disk i).nlink) × (¬ IsGoodType (inode_of disk i))
IsFaultOf v disk i checks.Types _ = ⊥
IsFaultOf v disk i checks.Numbers (faults.Outside place block) =
    (block ≡ slice_index (numbers_by disk i) place) × IsFirstAt (λ b. b ≢ 0 → IsData (sizes_of disk) b) (numbers_by disk i) place
IsFaultOf v disk i checks.Numbers _ = ⊥
IsFaultOf v disk i checks.Marks (faults.Unmarked place block) =
    (block ≡ slice_index (numbers_by disk i) place) × IsFirstAt (λ b. b ≢ 0 → is_marked disk b ≡ true) (numbers_by disk i) place
IsFaultOf v disk i checks.Marks _ = ⊥
IsFaultOf v disk i checks.Sizes fault = (is_node disk i ≡ true) × IsSizeFault v disk (inode_of disk i) fault
IsFaultOf v disk i checks.Slots fault =
    (is_live_directory disk i ≡ true) × IsSlotFault (is_node disk) i (slots_in v disk i) fault
IsFaultOf v disk i checks.Tree fault =
    (is_live_directory disk i ≡ true)
    × IsTreeFault i (up v disk i) (further_names_of v disk i) (proper_names_of v disk i) (Reaches (up v disk) i) fault
IsFaultOf v disk i checks.Counts fault =
    (is_node disk i ≡ true)
    × IsCountFault (inode_of disk i) (names_of v disk i) (further_names_of v disk i) (children_of v disk i) fault

-- the bits of the blocks up to the bitmap are set
abbrev pub IsFrontMarked : List (List ℕ) → Type 0
IsFrontMarked disk = (b : ℕ) → b ≤ (sizes_of disk).bmapstart → is_marked disk b ≡ true

-- the first of them whose bit is clear
abbrev pub IsFreeInFront : List (List ℕ) → ℕ → Type 0
IsFreeInFront disk f =
    (f ≤ (sizes_of disk).bmapstart) × (is_marked disk f ≡ false) × ((b : ℕ) → b < f → is_marked disk b ≡ true)

-- what was checked before
abbrev pub UpToCheck : Version → List (List ℕ) → Check → Type 0
UpToCheck v disk checks.Types = UpToLog v disk
UpToCheck v disk checks.Numbers = UpToRoot v disk
UpToCheck v disk checks.Marks = UpToOnce v disk × IsFrontMarked disk
UpToCheck v disk checks.Sizes = UpToMarks v disk
UpToCheck v disk checks.Slots = UpToSizes v disk
UpToCheck v disk checks.Tree = UpToSlots v disk
UpToCheck v disk checks.Counts = UpToTree v disk

-- inode i is the first that is damaged, of those from the first on
pub record IsFirstInode (v : Version) (disk : List (List ℕ)) (first : ℕ) (check : Check) (i : ℕ) (found : InodeFault) : Type 0 where
  pub low : first ≤ i
  pub high : i < (sizes_of disk).ninodes
  pub fault : IsFaultOf v disk i check found
  pub before : (j : ℕ) → first ≤ j → j < i → Passes v disk check j

abbrev pub IsInodePlace : Version → List (List ℕ) → ℕ → Check → Place → Type 0
IsInodePlace v disk first check (places.Inode own inode fault) = (own ≡ check) × IsFirstInode v disk first check inode fault
IsInodePlace v disk first check _ = ⊥

abbrev pub IsRootPlace : List (List ℕ) → Place → Type 0
IsRootPlace disk (places.Root kind links) = (kind ≡ (inode_of disk 1).kind) × (links ≡ (inode_of disk 1).nlink) × (¬ HasRoot disk)
IsRootPlace disk _ = ⊥

-- ---- all

-- the checks before pass, and this is the first place at which the next one fails
abbrev pub IsFirstPlace : Version → List (List ℕ) → Place → Type 0
IsFirstPlace v disk (places.Short blocks needed) =
    (blocks ≡ length disk) × (blocks < needed) × ((needed ≡ 2) ⊎ (UpToSuper v disk × (needed ≡ (sizes_of disk).size)))
IsFirstPlace v disk (places.Magic found) =
    UpToShort disk × (found ≡ u32_at (block_at disk super_block) super_magic_at) × (found ≢ magic_of v)
IsFirstPlace v disk (places.Sizes rule sizes) =
    UpToShort disk × (u32_at (block_at disk super_block) super_magic_at ≡ magic_of v) × (sizes ≡ sizes_of disk)
    × KeepsBefore (sizes_of disk) rule × (¬ Keeps (sizes_of disk) rule)
IsFirstPlace v disk (places.Log fault) = UpToSize v disk × IsLogFault disk fault
IsFirstPlace v disk (places.Root kind links) = UpToTypes v disk × IsRootPlace disk (places.Root kind links)
IsFirstPlace v disk (places.Shared block first second) = UpToRange v disk × IsShared disk block first second
IsFirstPlace v disk (places.Front block) = UpToOnce v disk × IsFreeInFront disk block
IsFirstPlace v disk (places.Inode check inode fault) = UpToCheck v disk check × IsFirstInode v disk 1 check inode fault

-- the damage to which a place belongs
abbrev pub damage_of_check : Check → Damage
damage_of_check checks.Types = damages.BadType
damage_of_check checks.Numbers = damages.BlockRange
damage_of_check checks.Marks = damages.BlockUnmarked
damage_of_check checks.Sizes = damages.BadSize
damage_of_check checks.Slots = damages.BadEntry
damage_of_check checks.Tree = damages.NotATree
damage_of_check checks.Counts = damages.LinkCount

abbrev pub damage_of : Place → Damage
damage_of (places.Short blocks needed) = damages.TooShort
damage_of (places.Magic found) = damages.BadSuper
damage_of (places.Sizes rule sizes) = damages.BadSuper
damage_of (places.Log fault) = damages.BadLog
damage_of (places.Root kind links) = damages.NoRoot
damage_of (places.Shared block first second) = damages.BlockShared
damage_of (places.Front block) = damages.BlockUnmarked
damage_of (places.Inode check inode fault) = damage_of_check check

-- the first damage of an image is that of its first place
abbrev pub PlacesAreDamage : Type 0
PlacesAreDamage = (v : Version) (disk : List (List ℕ)) (place : Place) → IsFirstPlace v disk place → IsFirstDamage v disk (damage_of place)

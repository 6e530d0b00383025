-- What can be migrated from version w to version v, and the first reason why not.
use Rattle.std.specs.Prelude.{◌≡◌, ℕ, ◌+◌, ◌*◌, ◌/◌, ◌<◌, ◌≤◌, true, List, codes, Result, Ok, Err}
use Rattle.migration.specs.Vocabulary.{Version, number_of as version_number, dirent_len_of, most_slots_of, most_disk_blocks, IsWellFormed, JudgesFault, fault_count_of, fault_name, fault_number, inode_of, is_live_directory, sizes_of, data_start, node_blocks}
use Rattle.migration.specs.Image.{used_by}
use Rattle.migration.specs.Kept.{new_nodes}
use Rattle.migration.specs.declared.refused.MigrateRefused.{MigrateRefused}
use Rattle.migration.specs.declared.refused.MigrateRefused.TheVariants.{Fault, AlreadyNew, BadSizes, DirectoryTooBig, NoBlocks}

-- ---- what must hold, in the order in which it is checked

-- the version is a later one
abbrev pub IsLater : Version → Version → Type 0
IsLater w v = version_number w < version_number v

-- the blocks that the root has in version v, its indirect block among them: it keeps its slots
abbrev pub root_blocks : Version → Version → List (List ℕ) → ℕ
root_blocks w v disk = node_blocks (dirent_len_of v * ((inode_of disk 1).size / dirent_len_of w))

-- not too many blocks, and those before the data and the root's fit
pub record HasGoodSizes (w v : Version) (size : ℕ) (disk : List (List ℕ)) : Type 0 where
  pub few : size ≤ most_disk_blocks
  pub room : data_start (sizes_of disk).ninodes + root_blocks w v disk ≤ size

-- no live directory has more slots than one of version v may
abbrev pub HasGoodDirectories : Version → Version → List (List ℕ) → Type 0
HasGoodDirectories w v disk = (i : ℕ) → is_live_directory disk i ≡ true → (inode_of disk i).size / dirent_len_of w ≤ most_slots_of v

-- how many blocks there are at least: those before the data, and the nodes'
abbrev pub least_size : Version → Version → List (List ℕ) → ℕ
least_size w v disk = used_by (data_start (sizes_of disk).ninodes) (new_nodes w v disk)

-- the blocks suffice
abbrev pub HasBlocks : Version → Version → ℕ → List (List ℕ) → Type 0
HasBlocks w v size disk = least_size w v disk ≤ size

-- ---- all up to one of them

pub record UpToLater (w v : Version) (disk : List (List ℕ)) : Type 0 where
  pub well_formed : IsWellFormed w disk
  pub later : IsLater w v

abbrev pub UpToSizes : Version → Version → ℕ → List (List ℕ) → Type 0
UpToSizes w v size disk = UpToLater w v disk × HasGoodSizes w v size disk

abbrev pub UpToDirectories : Version → Version → ℕ → List (List ℕ) → Type 0
UpToDirectories w v size disk = UpToSizes w v size disk × HasGoodDirectories w v disk

-- all of them
abbrev pub CanBeMigrated : Version → Version → ℕ → List (List ℕ) → Type 0
CanBeMigrated w v size disk = UpToDirectories w v size disk × HasBlocks w v size disk

-- the refusal names the first that doesn't hold; nothing is said of memory and the device
abbrev pub IsFirstRefusal : Version → Version → ℕ → List (List ℕ) → MigrateRefused → Type 0
IsFirstRefusal w v size disk (Fault f) = JudgesFault w disk f
IsFirstRefusal w v size disk AlreadyNew = IsWellFormed w disk × (¬ IsLater w v)
IsFirstRefusal w v size disk BadSizes = UpToLater w v disk × (¬ HasGoodSizes w v size disk)
IsFirstRefusal w v size disk DirectoryTooBig = UpToSizes w v size disk × (¬ HasGoodDirectories w v disk)
IsFirstRefusal w v size disk NoBlocks = UpToDirectories w v size disk × (¬ HasBlocks w v size disk)

-- the same if any number of blocks would do
abbrev pub IsFirstRefusalOfAny : Version → Version → List (List ℕ) → MigrateRefused → Type 0
IsFirstRefusalOfAny w v disk (Fault f) = JudgesFault w disk f
IsFirstRefusalOfAny w v disk AlreadyNew = IsWellFormed w disk × (¬ IsLater w v)
IsFirstRefusalOfAny w v disk BadSizes = ⊥
IsFirstRefusalOfAny w v disk DirectoryTooBig = UpToLater w v disk × (¬ HasGoodDirectories w v disk)
IsFirstRefusalOfAny w v disk NoBlocks = ⊥

-- ---- what they are of the device

abbrev pub fault_count_with : MigrateRefused → ℕ → ℕ
fault_count_with (Fault f) n = fault_count_of f n
fault_count_with AlreadyNew n = n
fault_count_with BadSizes n = n
fault_count_with DirectoryTooBig n = n
fault_count_with NoBlocks n = n

-- the old image's device has failed exactly if that is the answer
abbrev pub faults_with : {T : Type 0} → Result T MigrateRefused → ℕ → ℕ
faults_with (Ok x) n = n
faults_with (Err e) n = fault_count_with e n

-- ---- the numbers and names of refusals

abbrev pub number_of : MigrateRefused → ℕ
number_of (Fault f) = fault_number f
number_of AlreadyNew = 87
number_of BadSizes = 81
number_of DirectoryTooBig = 88
number_of NoBlocks = 84

abbrev pub name_of : MigrateRefused → List ℕ
name_of (Fault f) = fault_name f
name_of AlreadyNew = codes "AlreadyNew"
name_of BadSizes = codes "BadSizes"
name_of DirectoryTooBig = codes "DirectoryTooBig"
name_of NoBlocks = codes "NoBlocks"

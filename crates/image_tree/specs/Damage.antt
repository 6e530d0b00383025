-- The first check that fails of an image of one version. "Too short" is checked twice: for a superblock, and then for
-- the size that the superblock says.
use Rattle.std.specs.Prelude.{◌⊎◌, ℕ, ◌+◌, ◌≤◌, List, length, min, Result, Ok, Err}
use Rattle.image_tree.specs.declared.fault.Damage.{Damage}
use Rattle.image_tree.specs.declared.fault.Damage.TheVariants.{TooShort, BadSuper, BadLog, BadType, NoRoot, BlockRange, BlockShared, BlockUnmarked, BadSize, BadEntry, NotATree, LinkCount}
use Rattle.image_tree.specs.declared.fault.MountFault.{MountFault}
use Rattle.image_tree.specs.declared.fault.MountFault.TheVariants as faults
use Rattle.image_tree.specs.Vocabulary.{Version, most_faults, sizes_of}
use Rattle.image_tree.specs.Checks.{HasSuper, HasGoodLog, HasGoodTypes, HasRoot, HasGoodNumbers, NamesOnce, HasMarks, HasGoodSizes, HasGoodSlots, IsOneTree, HasGoodCounts}

-- what the checks up to one say
abbrev pub UpToShort : List (List ℕ) → Type 0
UpToShort disk = 2 ≤ length disk

abbrev pub UpToSuper : Version → List (List ℕ) → Type 0
UpToSuper v disk = UpToShort disk × HasSuper v disk

abbrev pub UpToSize : Version → List (List ℕ) → Type 0
UpToSize v disk = UpToSuper v disk × ((sizes_of disk).size ≤ length disk)

abbrev pub UpToLog : Version → List (List ℕ) → Type 0
UpToLog v disk = UpToSize v disk × HasGoodLog disk

abbrev pub UpToTypes : Version → List (List ℕ) → Type 0
UpToTypes v disk = UpToLog v disk × HasGoodTypes disk

abbrev pub UpToRoot : Version → List (List ℕ) → Type 0
UpToRoot v disk = UpToTypes v disk × HasRoot disk

abbrev pub UpToRange : Version → List (List ℕ) → Type 0
UpToRange v disk = UpToRoot v disk × HasGoodNumbers disk

abbrev pub UpToOnce : Version → List (List ℕ) → Type 0
UpToOnce v disk = UpToRange v disk × NamesOnce disk

abbrev pub UpToMarks : Version → List (List ℕ) → Type 0
UpToMarks v disk = UpToOnce v disk × HasMarks disk

abbrev pub UpToSizes : Version → List (List ℕ) → Type 0
UpToSizes v disk = UpToMarks v disk × HasGoodSizes v disk

abbrev pub UpToSlots : Version → List (List ℕ) → Type 0
UpToSlots v disk = UpToSizes v disk × HasGoodSlots v disk

abbrev pub UpToTree : Version → List (List ℕ) → Type 0
UpToTree v disk = UpToSlots v disk × IsOneTree v disk

-- no check fails
abbrev pub IsWellFormed : Version → List (List ℕ) → Type 0
IsWellFormed v disk = UpToTree v disk × HasGoodCounts v disk

-- the checks before it pass, and it fails
abbrev pub IsFirstDamage : Version → List (List ℕ) → Damage → Type 0
IsFirstDamage v disk TooShort = (¬ UpToShort disk) ⊎ (UpToSuper v disk × (¬ ((sizes_of disk).size ≤ length disk)))
IsFirstDamage v disk BadSuper = UpToShort disk × (¬ HasSuper v disk)
IsFirstDamage v disk BadLog = UpToSize v disk × (¬ HasGoodLog disk)
IsFirstDamage v disk BadType = UpToLog v disk × (¬ HasGoodTypes disk)
IsFirstDamage v disk NoRoot = UpToTypes v disk × (¬ HasRoot disk)
IsFirstDamage v disk BlockRange = UpToRoot v disk × (¬ HasGoodNumbers disk)
IsFirstDamage v disk BlockShared = UpToRange v disk × (¬ NamesOnce disk)
IsFirstDamage v disk BlockUnmarked = UpToOnce v disk × (¬ HasMarks disk)
IsFirstDamage v disk BadSize = UpToMarks v disk × (¬ HasGoodSizes v disk)
IsFirstDamage v disk BadEntry = UpToSizes v disk × (¬ HasGoodSlots v disk)
IsFirstDamage v disk NotATree = UpToSlots v disk × (¬ IsOneTree v disk)
IsFirstDamage v disk LinkCount = UpToTree v disk × (¬ HasGoodCounts v disk)

abbrev pub JudgesFault : Version → List (List ℕ) → MountFault → Type 0
JudgesFault v disk (faults.Damaged d) = IsFirstDamage v disk d
JudgesFault v disk faults.DeviceFault = Unit {0}
JudgesFault v disk faults.NoMemory = Unit {0}

-- the device has failed exactly if that is the answer
abbrev pub fault_count_of : MountFault → ℕ → ℕ
fault_count_of (faults.Damaged d) n = n
fault_count_of faults.DeviceFault n = min (n + 1) most_faults
fault_count_of faults.NoMemory n = n

-- of an answer: what Ok says, and a damage only if it is the first
abbrev pub JudgesWith : {T : Type 0} → Version → (T → Type 0) → List (List ℕ) → Result T MountFault → Type 0
JudgesWith v P disk (Ok x) = P x
JudgesWith v P disk (Err e) = JudgesFault v disk e

abbrev pub faults_with : {T : Type 0} → Result T MountFault → ℕ → ℕ
faults_with (Ok x) n = n
faults_with (Err e) n = fault_count_of e n

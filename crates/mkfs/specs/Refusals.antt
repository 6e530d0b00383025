-- What can be made in a version, and the first reason why not.
use Rattle.std.specs.Prelude.{◌≢◌, ℕ, ◌+◌, ◌-◌, ◌≤◌, List, length, codes, All, AllPairs}
use Rattle.mkfs.specs.Vocabulary.{IsName, Version, largest_size, most_disk_blocks, most_slots_of, dot, dotdot}
use Rattle.mkfs.specs.declared.refused.MakeRefused.{MakeRefused}
use Rattle.mkfs.specs.declared.refused.MakeRefused.TheVariants.{NoMemory, BadSizes, BadName, FileTooBig, NoBlocks, NoInodes}
use Rattle.mkfs.specs.Layout.{data_start, node_blocks, file_blocks, root_size}
use Rattle.mkfs.specs.Widths.{most_inodes}

-- ---- what must hold, in the order in which it is checked

-- blocks and inodes are within their limits, and the blocks before the data and the root's own fit
pub record HasGoodSizes (v : Version) (size ninodes files : ℕ) : Type 0 where
  pub few_blocks : size ≤ most_disk_blocks
  pub some_inodes : 2 ≤ ninodes
  pub few_inodes : ninodes ≤ most_inodes
  pub room : data_start ninodes + node_blocks (root_size v files) ≤ size

-- a name of an entry that isn't "." or ".."
abbrev pub IsFileName : Version → List ℕ → Type 0
IsFileName v name = IsName v name × (name ≢ dot) × (name ≢ dotdot)

-- each file may be named so, and no two have one name
pub record HasGoodNames (v : Version) (names : List (List ℕ)) : Type 0 where
  pub each : All (IsFileName v) names
  pub once : AllPairs (λ x y. x ≢ y) names

-- no file is too large, and the root has no more entries than a directory may
pub record HasGoodFiles (v : Version) (contents : List (List ℕ)) : Type 0 where
  pub each : All (λ content. length content ≤ largest_size) contents
  pub few : 2 + length contents ≤ most_slots_of v

-- the inodes suffice for the root and the files: inode 0 is never used
abbrev pub HasInodes : ℕ → List (List ℕ) → Type 0
HasInodes ninodes contents = 1 + length contents ≤ ninodes - 1

-- the blocks suffice: those before the data, the root's and the files'
abbrev pub HasBlocks : Version → ℕ → ℕ → List (List ℕ) → Type 0
HasBlocks v size ninodes contents = data_start ninodes + node_blocks (root_size v (length contents)) + file_blocks contents ≤ size

-- ---- all up to one of them

abbrev pub UpToNames : Version → ℕ → ℕ → List (List ℕ) → Type 0
UpToNames v size ninodes names = HasGoodSizes v size ninodes (length names) × HasGoodNames v names

abbrev pub UpToFiles : Version → ℕ → ℕ → List (List ℕ) → List (List ℕ) → Type 0
UpToFiles v size ninodes names contents = UpToNames v size ninodes names × HasGoodFiles v contents

abbrev pub UpToInodes : Version → ℕ → ℕ → List (List ℕ) → List (List ℕ) → Type 0
UpToInodes v size ninodes names contents = UpToFiles v size ninodes names contents × HasInodes ninodes contents

-- all of them
abbrev pub CanBeMade : Version → ℕ → ℕ → List (List ℕ) → List (List ℕ) → Type 0
CanBeMade v size ninodes names contents = UpToInodes v size ninodes names contents × HasBlocks v size ninodes contents

-- the refusal names the first that doesn't hold; nothing is said of memory
abbrev pub IsFirstRefusal : Version → ℕ → ℕ → List (List ℕ) → List (List ℕ) → MakeRefused → Type 0
IsFirstRefusal v size ninodes names contents NoMemory = Unit {0}
IsFirstRefusal v size ninodes names contents BadSizes = ¬ HasGoodSizes v size ninodes (length names)
IsFirstRefusal v size ninodes names contents BadName = HasGoodSizes v size ninodes (length names) × (¬ HasGoodNames v names)
IsFirstRefusal v size ninodes names contents FileTooBig = UpToNames v size ninodes names × (¬ HasGoodFiles v contents)
IsFirstRefusal v size ninodes names contents NoInodes = UpToFiles v size ninodes names contents × (¬ HasInodes ninodes contents)
IsFirstRefusal v size ninodes names contents NoBlocks = UpToInodes v size ninodes names contents × (¬ HasBlocks v size ninodes contents)

-- ---- the numbers and names of refusals

abbrev pub number_of : MakeRefused → ℕ
number_of NoMemory = 33
number_of BadSizes = 81
number_of BadName = 82
number_of FileTooBig = 83
number_of NoBlocks = 84
number_of NoInodes = 85

abbrev pub name_of : MakeRefused → List ℕ
name_of NoMemory = codes "NoMemory"
name_of BadSizes = codes "BadSizes"
name_of BadName = codes "BadName"
name_of FileTooBig = codes "FileTooBig"
name_of NoBlocks = codes "NoBlocks"
name_of NoInodes = codes "NoInodes"

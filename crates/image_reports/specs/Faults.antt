-- Why there is no report, and what is said of an image otherwise.
use Rattle.std.specs.Prelude.{◌≡◌, ◌≤◌, ℕ, List, Option, None, ⊤}
use Rattle.image_reports.specs.Vocabulary.{Damaged, DeviceFault, IsWellFormed, JudgesFault, MountFault, NoMemory, sizes_of, tree_in, version_in}
use Rattle.image_reports.specs.Paths.{number_at}
use Rattle.image_reports.specs.Files.{IsNoFileOf}
use Rattle.image_reports.specs.Parts.{slots_in}
use Rattle.image_reports.specs.declared.fault.ReportFault.{ReportFault}
use Rattle.image_reports.specs.declared.fault.ReportFault.TheVariants.{Image, Memory, NoDirectory, NoFile, NoInode, NoPath, TooLong, Write}
use Rattle.image_reports.specs.declared.opened.Opened.{Opened}

abbrev pub of_mount : MountFault → ReportFault
of_mount (Damaged d) = Image (Damaged d)
of_mount DeviceFault = Image DeviceFault
of_mount NoMemory = Memory

-- the image is well formed, and this is its version and its tree
pub record IsOpened (disk : List (List ℕ)) (opened : Opened) : Type 0 where
  pub good : IsWellFormed (version_in disk) disk
  pub version : opened.version ≡ version_in disk
  pub tree : opened.tree ≡ tree_in (version_in disk) disk

-- a damage is the image's first; a path that is refused leads nowhere, or to no file
abbrev pub Refuses : List (List ℕ) → List ℕ → ReportFault → Type 0
Refuses disk path (Image fault) = JudgesFault (version_in disk) disk fault
Refuses disk path NoPath = IsWellFormed (version_in disk) disk × (number_at disk path ≡ None)
Refuses disk path NoFile = IsNoFileOf disk path
Refuses disk path NoInode = ⊥
Refuses disk path NoDirectory = ⊥
Refuses disk path (Write error) = ⊤
Refuses disk path TooLong = ⊤
Refuses disk path Memory = ⊤

-- a damage is the image's first, and nothing is said of a path
abbrev pub RefusesImage : List (List ℕ) → ReportFault → Type 0
RefusesImage disk (Image fault) = JudgesFault (version_in disk) disk fault
RefusesImage disk NoPath = ⊥
RefusesImage disk NoFile = ⊥
RefusesImage disk NoInode = ⊥
RefusesImage disk NoDirectory = ⊥
RefusesImage disk (Write error) = ⊤
RefusesImage disk TooLong = ⊥
RefusesImage disk Memory = ⊤

-- it is no refusal of the image or of the path
abbrev pub IsOfWriting : ReportFault → Type 0
IsOfWriting (Image fault) = ⊥
IsOfWriting NoPath = ⊥
IsOfWriting NoFile = ⊥
IsOfWriting NoInode = ⊥
IsOfWriting NoDirectory = ⊥
IsOfWriting (Write error) = ⊤
IsOfWriting TooLong = ⊤
IsOfWriting Memory = ⊤

-- a damage is the image's first; a number that is refused is no inode of the image
abbrev pub RefusesInode : List (List ℕ) → ℕ → ReportFault → Type 0
RefusesInode disk number (Image fault) = JudgesFault (version_in disk) disk fault
RefusesInode disk number NoPath = ⊥
RefusesInode disk number NoFile = ⊥
RefusesInode disk number NoInode = IsWellFormed (version_in disk) disk × ((sizes_of disk).ninodes ≤ number)
RefusesInode disk number NoDirectory = ⊥
RefusesInode disk number (Write error) = ⊤
RefusesInode disk number TooLong = ⊥
RefusesInode disk number Memory = ⊤

-- a damage is the image's first; a number that is refused is no directory of its tree
abbrev pub RefusesDirectory : List (List ℕ) → ℕ → ReportFault → Type 0
RefusesDirectory disk number (Image fault) = JudgesFault (version_in disk) disk fault
RefusesDirectory disk number NoPath = ⊥
RefusesDirectory disk number NoFile = ⊥
RefusesDirectory disk number NoInode = ⊥
RefusesDirectory disk number NoDirectory = IsWellFormed (version_in disk) disk × (slots_in disk number ≡ None)
RefusesDirectory disk number (Write error) = ⊤
RefusesDirectory disk number TooLong = ⊥
RefusesDirectory disk number Memory = ⊤

-- a refused image, path or number writes nothing
abbrev pub IsSilent : Option (List ℕ) → Option (List ℕ) → ReportFault → Type 0
IsSilent out out' (Image fault) = out' ≡ out
IsSilent out out' NoPath = out' ≡ out
IsSilent out out' NoFile = out' ≡ out
IsSilent out out' NoInode = out' ≡ out
IsSilent out out' NoDirectory = out' ≡ out
IsSilent out out' (Write error) = ⊤
IsSilent out out' TooLong = ⊤
IsSilent out out' Memory = ⊤

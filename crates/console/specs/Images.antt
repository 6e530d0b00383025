-- The image that a script runs on, and why it isn't taken.
use Rattle.std.specs.Prelude.{ℕ, List, [], Option, Some, None, Vec}
use Rattle.console.specs.Vocabulary.{Global, blocks_of, IsFirstDamage, IsWellFormed, One, image_of}
use Rattle.image_tree.specs.declared.fault.MountFault.TheVariants as mounts
use Rattle.console.specs.declared.fault.ConsoleFault.{ConsoleFault}
use Rattle.console.specs.declared.fault.ConsoleFault.TheVariants.{Image, Read, Write, Line, Stopped, Memory}

-- without files
abbrev pub fresh_bytes : List ℕ
fresh_bytes = image_of One 2000 200 [] []

-- the one that is given, else a fresh one
abbrev pub bytes_for : Option (Vec ℕ Global) → List ℕ
bytes_for None = fresh_bytes
bytes_for (Some bytes) = bytes.items

abbrev pub disk_for : Option (Vec ℕ Global) → List (List ℕ)
disk_for image = blocks_of (bytes_for image)

-- why a disk in memory isn't mounted: its first damage, or want of memory
abbrev pub RefusesDisk : List (List ℕ) → ConsoleFault → Type 0
RefusesDisk disk (Image (mounts.Damaged d)) = IsFirstDamage disk d
RefusesDisk disk (Image mounts.DeviceFault) = ⊥
RefusesDisk disk (Image mounts.NoMemory) = ⊥
RefusesDisk disk (Read e) = ⊥
RefusesDisk disk (Write e) = ⊥
RefusesDisk disk (Line n why) = ⊥
RefusesDisk disk (Stopped s) = ⊥
RefusesDisk disk Memory = Unit {0}

-- Why a run on a disk in memory has no end. A refused image is refused for its first damage. All else is reported of a
-- mounted image, or of one that is examined, and this disk never fails.
abbrev pub JudgesImage : List (List ℕ) → ConsoleFault → Type 0
JudgesImage disk (Image (mounts.Damaged d)) = IsFirstDamage disk d
JudgesImage disk (Image mounts.DeviceFault) = ⊥
JudgesImage disk (Image mounts.NoMemory) = ⊥
JudgesImage disk (Read e) = IsWellFormed disk
JudgesImage disk (Write e) = IsWellFormed disk
JudgesImage disk (Line n why) = IsWellFormed disk
JudgesImage disk (Stopped s) = ⊥
JudgesImage disk Memory = Unit {0}

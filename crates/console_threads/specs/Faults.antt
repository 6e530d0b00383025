-- Why a script's threads don't reach their end, and the exit status of a program that says so.
use Rattle.std.specs.Prelude.{ℕ, List}
use Rattle.console_threads.specs.Vocabulary.{IsWellFormed, MountFault, JudgesImage}
use Rattle.image_tree.specs.declared.fault.MountFault.TheVariants as mounts
use Rattle.console.specs.declared.fault.ConsoleFault.TheVariants as faults
use Rattle.console.specs.Faults as console
use Rattle.console_threads.specs.declared.fault.ThreadsFault.{ThreadsFault}
use Rattle.console_threads.specs.declared.fault.ThreadsFault.TheVariants.{Console, Device, Strange}

-- want of memory is no fault of the image, nor is a disk that fails
abbrev pub of_mount : MountFault → ThreadsFault
of_mount (mounts.Damaged d) = Console (faults.Image (mounts.Damaged d))
of_mount mounts.DeviceFault = Device
of_mount mounts.NoMemory = Console faults.Memory

-- 3, unless it is a fault that there is without threads too
abbrev pub status_of : ThreadsFault → ℕ
status_of (Console fault) = console.status_of fault
status_of Device = 3
status_of Strange = 3

-- A refused image is refused for its first damage; all else is reported of a mounted image, but a disk that fails at
-- once.
abbrev pub JudgesRun : List (List ℕ) → ThreadsFault → Type 0
JudgesRun disk (Console fault) = JudgesImage disk fault
JudgesRun disk Device = Unit {0}
JudgesRun disk Strange = IsWellFormed disk

-- a hart didn't reach its end, or was answered another thing
abbrev pub IsBroken : ThreadsFault → Type 0
IsBroken (Console faults.Memory) = Unit {0}
IsBroken Device = Unit {0}
IsBroken Strange = Unit {0}
IsBroken (Console (faults.Image f)) = ⊥
IsBroken (Console (faults.Read e)) = ⊥
IsBroken (Console (faults.Write e)) = ⊥
IsBroken (Console (faults.Line n why)) = ⊥
IsBroken (Console (faults.Stopped stop)) = ⊥

-- the image is mounted, and no call stopped
abbrev pub IsMounted : ThreadsFault → Type 0
IsMounted (Console (faults.Image f)) = ⊥
IsMounted (Console (faults.Stopped stop)) = ⊥
IsMounted (Console faults.Memory) = Unit {0}
IsMounted (Console (faults.Read e)) = Unit {0}
IsMounted (Console (faults.Write e)) = Unit {0}
IsMounted (Console (faults.Line n why)) = Unit {0}
IsMounted Device = Unit {0}
IsMounted Strange = Unit {0}

-- Why a script doesn't reach its end, and the exit status of a program that says so.
use Rattle.std.specs.Prelude.{ℕ}
use Rattle.console.specs.Vocabulary.{MountFault, ScriptFault}
use Rattle.image_tree.specs.declared.fault.MountFault.TheVariants as mounts
use Rattle.console.specs.declared.fault.ConsoleFault.{ConsoleFault}
use Rattle.console.specs.declared.fault.ConsoleFault.TheVariants as faults
use Rattle.script.specs.declared.command.ScriptFault.TheVariants as scripts

-- want of memory is no fault of the image
abbrev pub of_mount : MountFault → ConsoleFault
of_mount (mounts.Damaged d) = faults.Image (mounts.Damaged d)
of_mount mounts.DeviceFault = faults.Image mounts.DeviceFault
of_mount mounts.NoMemory = faults.Memory

abbrev pub of_script : ScriptFault → ConsoleFault
of_script (scripts.Line n why) = faults.Line n why
of_script scripts.Memory = faults.Memory

-- 1: an image, a file or a script that isn't read, or an answer that isn't written; 2: a bad line; 3: a stop, or want of memory
abbrev pub status_of : ConsoleFault → ℕ
status_of (faults.Image f) = 1
status_of (faults.Read e) = 1
status_of (faults.Write e) = 1
status_of (faults.Line n why) = 2
status_of (faults.Stopped s) = 3
status_of faults.Memory = 3

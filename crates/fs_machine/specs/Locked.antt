-- The meaning of the lock of a descriptor's inode.
use Rattle.std.specs.Prelude.{Option, Some, None}
use Rattle.fs_machine.specs.Vocabulary.{GuardState, ExecResult, Waits as ItWaits, Ran}
use Rattle.fs_machine.specs.InMemory.{Inode, Loaded}
use Rattle.fs_machine.specs.declared.files.OpenFile.{OpenFile}
use Rattle.fs_machine.specs.Inodes.{LockedState, Refuses, Locks}
use Rattle.fs_machine.specs.declared.inodes.LockedFile.{LockedFile}
use Rattle.fs_machine.specs.declared.inodes.LockedFile.TheVariants.{Waits, Refused, Locked}

abbrev pub file_locked_as : {S : Type 0} → LockedFile → S → ExecResult LockedState S
file_locked_as Waits s = ItWaits
file_locked_as (Refused why) s = Ran (Refuses why) s
file_locked_as (Locked file guard) s = Ran (Locks file guard.value.content) s

abbrev pub open_locked_as : {S : Type 0} → Option (OpenFile × GuardState Inode) → S → ExecResult (OpenFile × Option Loaded) S
open_locked_as None s = ItWaits
open_locked_as (Some (file, guard)) s = Ran (file, guard.value.content) s

abbrev pub IfFileWaits : LockedFile → Type 0 → Type 0
IfFileWaits Waits P = P
IfFileWaits (Refused why) P = Unit {0}
IfFileWaits (Locked file guard) P = Unit {0}

abbrev pub IfFileLocked : LockedFile → (OpenFile → GuardState Inode → Type 0) → Type 0
IfFileLocked Waits P = Unit {0}
IfFileLocked (Refused why) P = Unit {0}
IfFileLocked (Locked file guard) P = P file guard

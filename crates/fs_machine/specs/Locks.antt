-- How a guard of an inode goes with the tables.
use Rattle.std.specs.Prelude.{◌≡◌, ◌<◌, Some, slice_get}
use Rattle.fs_machine.specs.Vocabulary.{GuardState, IsOut}
use Rattle.fs_machine.specs.InMemory.{Inode}
use Rattle.fs_machine.specs.declared.entries.Entry.{Entry}
use Rattle.fs_machine.specs.Tables.{TablesState}

-- the guard's lock is out in its hart's hand, at the place of its inode
pub record IsLocked (guard : GuardState Inode) (t : TablesState) : Type 0 where
  pub out : IsOut t.locks guard
  pub entry : Entry
  pub there : slice_get t.entries guard.number ≡ Some entry
  pub number : entry.number ≡ guard.value.number
  pub referenced : 0 < entry.references

-- every guard's lock stays out
abbrev pub LeavesLocked : TablesState → TablesState → Type 0
LeavesLocked old new = (guard : GuardState Inode) → IsLocked guard old → IsLocked guard new

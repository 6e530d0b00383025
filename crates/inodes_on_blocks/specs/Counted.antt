-- What the machine below asks of the tables whenever an operation waits, from what it shows of the world above.
use Rattle.std.specs.Prelude.{◌≡◌, ℕ}
use Rattle.inodes_on_blocks.specs.Vocabulary.{Waits, Outside, Op, May, MayWait, IsCounted, Inv}
use Rattle.fs_machine.specs.Steps as steps
use Rattle.inode_machine.specs.World as above
use Rattle.inodes_on_blocks.specs.Basics.{World, tables_of, Shows}

-- Each reference that an open file or a current directory has is counted.
abbrev pub ReferencesAreCounted : Type 0
ReferencesAreCounted = (r : World) (w : above.World) → Shows r w → Inv w → IsCounted (tables_of r)

-- An operation that may be made waits only for what another hart has in its hand, or for the log.
abbrev pub WaitsForOthers : Type 0
WaitsForOthers = (h : ℕ) (x : Outside) (op : Op) (r : World) (w : above.World) → Shows r w → Inv w → May h op r.state
    → steps.exec h x op r.state ≡ Waits → MayWait h op r.state

-- An operation on whole inodes under way in its part.
use Rattle.std.specs.Prelude.{◌≡◌, ℕ, List, [], Option, Some, None}
use Rattle.inode_parts.specs.Vocabulary.{Hand, Version, with_txn, AtNothing, answer_to, Heard}
use Rattle.inode_machine.specs.World as above
use Rattle.inode_parts.specs.Claims.{ClaimAmid}
use Rattle.inode_parts.specs.Clears.{ClearAmid}
use Rattle.inode_parts.specs.Empties.{EmptyAmid}
use Rattle.inode_parts.specs.Enters.{EnterAmid}
use Rattle.inode_parts.specs.FileLocks.{LockFileAmid, LockOpenAmid}
use Rattle.inode_parts.specs.FileReads.{ReadFileAmid}
use Rattle.inode_parts.specs.FileStats.{StatAmid}
use Rattle.inode_parts.specs.FileWrites.{WriteFileAmid}
use Rattle.inode_parts.specs.Fills.{FillAmid}
use Rattle.inode_parts.specs.Frees.{FreeAmid}
use Rattle.inode_parts.specs.Relocks.{RelockAmid}
use Rattle.inode_parts.specs.Stores.{StoreAmid}
use Rattle.inode_parts.specs.Takes.{TakeAmid}
use Rattle.inode_parts.specs.Basics.{Begins, step_for}
use Rattle.inode_parts.specs.Holding.{Having, Leaves}
use Rattle.inode_parts.specs.declared.one_step.OneStep.{OneStep}
use Rattle.inode_parts.specs.declared.part.InodePart.{InodePart}
use Rattle.inode_parts.specs.declared.part.InodePart.TheVariants as part

-- one below: nothing has changed yet
abbrev pub OneAmid : above.Op → Having → OneStep → Having → Type 0
OneAmid op start s now = Begins op start.hand × (step_for op start.hand ≡ Some s) × (now ≡ start)

-- one of several steps: all in hand is as it was, but for what it changes itself
abbrev pub LongAmid : Version → List ℕ → above.Op → Hand → InodePart → Hand → Type 0
LongAmid v path above.Leave start (part.Leave f) now = with_txn None now ≡ with_txn None start
LongAmid v path (above.Store n count) start (part.Store p) now = StoreAmid n start p now
LongAmid v path (above.Empty n) start (part.Empty p) now = EmptyAmid n start p now
LongAmid v path (above.Enter d e n) start (part.Enter p) now = EnterAmid d start p now
LongAmid v path (above.Clear d e) start (part.Clear p) now = ClearAmid d start p now
LongAmid v path (above.Fill n d) start (part.Fill p) now = FillAmid n start p now
LongAmid v path (above.Free n) start (part.Free p) now = FreeAmid n start p now
LongAmid v path (above.Claim inode_type) start (part.Claim p) now = ClaimAmid start p now
LongAmid v path (above.LockOpen fd n) start (part.LockOpen p) now = LockOpenAmid fd start p now
LongAmid v path (above.LockFile fd) start (part.LockFile p) now = LockFileAmid fd start p now
LongAmid v path (above.StatFile fd) start (part.StatFile p) now = StatAmid start p now
LongAmid v path (above.Take n looking) start (part.Relock p) now = (looking ≡ AtNothing) × RelockAmid n start p now
LongAmid v path (above.Take n looking) start (part.Take p) now = TakeAmid v path n looking start p now
LongAmid v path (above.ReadFile fd n offset count) start (part.ReadFile p) now = ReadFileAmid n start p now
LongAmid v path (above.WriteFile fd n offset bytes) start (part.WriteFile p) now = WriteFileAmid n start p now
LongAmid v path op start p now = ⊥

-- this operation began with that in hand, and its part is under way from there
abbrev pub UnderWay : Version → List ℕ → above.Op → Having → InodePart → Having → Type 0
UnderWay v path op start (part.One s) now = OneAmid op start s now
UnderWay v path op start p now = LongAmid v path op start.hand p now.hand × (now.notes ≡ start.notes)

-- it still is, or leaves what is said of it
abbrev pub GoesOrLeaves : Version → List ℕ → above.Op → Having → Option Heard → InodePart → Having → Type 0
GoesOrLeaves v path op start None p now = UnderWay v path op start p now
GoesOrLeaves v path op start (Some x) p now = Leaves v path op (answer_to [] op x) start now

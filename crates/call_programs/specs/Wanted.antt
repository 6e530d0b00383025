-- The room that an answer says is missing.
use Rattle.std.specs.Prelude.{ℕ, Bool, true, false, Option, Some, None}
use Rattle.inode_machine.specs.Vocabulary.{Full, Blocks, Descriptors, DirectorySlots as Directory, DiskInodes, MemInodes, OpenFiles}
use Rattle.inode_machine.specs.Basics.{Answer, ClaimResult, EntryResult, InPlace, New, NoBlock, NoInode, NoPlace, NoSlot, Op, Refused, Short, Whole, Wrote}
use Rattle.inode_machine.specs.World.Op.{Claim, Double, Enter, Fill, Install, Slot, Up, UpStart, WriteFile}

abbrev pub wanted_unless : Full → Bool → Option Full
wanted_unless room true = None
wanted_unless room false = Some room

abbrev pub wanted_without : {A : Type 0} → Full → Option A → Option Full
wanted_without room None = Some room
wanted_without room (Some a) = None

abbrev pub wanted_to_claim : ClaimResult → Option Full
wanted_to_claim (New n) = None
wanted_to_claim NoInode = Some DiskInodes
wanted_to_claim NoPlace = Some MemInodes

abbrev pub wanted_to_enter : EntryResult → Option Full
wanted_to_enter InPlace = None
wanted_to_enter NoBlock = Some Blocks
wanted_to_enter NoSlot = Some Directory

abbrev pub wanted_to_write : Wrote → Option Full
wanted_to_write Whole = None
wanted_to_write (Refused why) = None
wanted_to_write (Short k) = Some Blocks

abbrev pub wanted_to_double : Option (Option ℕ) → Option Full
wanted_to_double None = None
wanted_to_double (Some None) = Some Descriptors
wanted_to_double (Some (Some fd)) = None

-- The room that an operation wanted and didn't find, as its answer says.
abbrev pub wanted : (op : Op) → Answer op → Option Full
wanted (UpStart absolute) start = wanted_without MemInodes start
wanted (Up n) there = wanted_unless MemInodes there
wanted (Claim inode_type) made = wanted_to_claim made
wanted (Fill n d) there = wanted_unless Blocks there
wanted (Enter d e n) made = wanted_to_enter made
wanted Slot there = wanted_unless OpenFiles there
wanted (Install f inode_type) fd = wanted_without Descriptors fd
wanted (WriteFile fd n offset bytes) wrote = wanted_to_write wrote
wanted (Double fd) made = wanted_to_double made
wanted op answer = None

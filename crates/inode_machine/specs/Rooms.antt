-- Which answers of the operations say that there is no room.
use Rattle.std.specs.Prelude.{ℕ, Bool, true, false, not, Option, Some, None}
use Rattle.inode_machine.specs.Basics.{Answer, ClaimResult, EntryResult, InPlace, New, NoBlock, NoInode, NoPlace, NoSlot, Op, Refused, Short, Whole, Wrote, is_nothing}
use Rattle.inode_machine.specs.World.Op.{Claim, Double, Enter, Fill, Install, Slot, Up, UpStart, WriteFile}

abbrev pub is_no_inode : ClaimResult → Bool
is_no_inode (New n) = false
is_no_inode NoInode = true
is_no_inode NoPlace = true

abbrev pub is_no_entry : EntryResult → Bool
is_no_entry InPlace = false
is_no_entry NoBlock = true
is_no_entry NoSlot = true

abbrev pub is_short : Wrote → Bool
is_short Whole = false
is_short (Refused why) = false
is_short (Short k) = true

abbrev pub is_no_descriptor : Option (Option ℕ) → Bool
is_no_descriptor None = false
is_no_descriptor (Some None) = true
is_no_descriptor (Some (Some fd)) = false

-- The operation's answer says that there is no room. There is no place in memory for an inode, no inode free, no block
-- or no slot of a directory. Or there is no place for an open file, no descriptor, or a piece was written in part.
abbrev pub says_no_room : (op : Op) → Answer op → Bool
says_no_room (UpStart absolute) start = is_nothing start
says_no_room (Up n) there = not there
says_no_room (Claim inode_type) made = is_no_inode made
says_no_room (Fill n d) there = not there
says_no_room (Enter d e n) made = is_no_entry made
says_no_room Slot there = not there
says_no_room (Install f inode_type) fd = is_nothing fd
says_no_room (WriteFile fd n offset bytes) wrote = is_short wrote
says_no_room (Double fd) made = is_no_descriptor made
says_no_room op answer = false

-- The programs below of operations on whole inodes. c: what the hart has of the inodes whose locks it has.
use Rattle.std.specs.Prelude.{ℕ, Bool, true, false, Option, Some, None, is_some}
use Rattle.inodes_on_blocks.specs.Vocabulary.{Prog, Ret, Do, Act, Handover, holding, Cause, OpenFile, put, root, descriptor_count, Loaded, Refused, Doubled, Given, DroppedState, Counts, Keeps, Dies, after_leave, Whom, Number, Held, Walked, Freed, InodeType, LoanResult, Lent, Moved, UnlockInode, UpStart, Up, WalkDown, Down, Forget, Slot, Install, CheckFile, JoinFile, Double, Shut, SetDirectory, Lend, LendDirectory, Release, Join, Leave, Say}
use Rattle.plain_tree.specs.declared.answer.Cause.TheVariants as causes
use Rattle.fs_machine.specs.declared.files.Refused.TheVariants as refused
use Rattle.fs_machine.specs.declared.files.Want.TheVariants as want
use Rattle.fs_machine.specs.declared.slots.Doubled.TheVariants as doubled
use Rattle.fs_machine.specs.declared.slots.Given.TheVariants as given
use Rattle.fs_machine.specs.declared.slots.Shut as shuts
use Rattle.fs_machine.specs.declared.slots.Shut.TheVariants as shut
use Rattle.fs_machine.specs.Steps as steps
use Rattle.fs_machine.specs.Steps.{Directory}
use Rattle.inode_machine.specs.World as above
use Rattle.inodes_on_blocks.specs.ShownTables.{new_file}
use Rattle.inodes_on_blocks.specs.Lowering.{NothingMore, Had, Apart, Has, Carry, record_had}

abbrev pub Acts : Type 0
Acts = Act above.Op above.Answer above.Mark above.Outside

abbrev pub P : Type 0 → Type 0
P A = Prog steps.Op steps.Answer Acts A

abbrev pub Handler : above.Op → Type 0
Handler op = Carry → (above.Answer op → Option above.Mark) → P (Handover (above.Answer op) Carry)

-- this operation acts at the step so marked
abbrev pub acts : (op : above.Op) → above.Outside → (above.Answer op → Option above.Mark) → Option Acts
acts op y m = Some (record { op = op; outside = y; mark = m })

-- a program of one step: its answer above, and what the hart has in hand after it
abbrev pub one : (op : above.Op) (m : above.Answer op → Option above.Mark) (lop : steps.Op) → (steps.Answer lop → above.Answer op)
    → (steps.Answer lop → Carry) → P (Handover (above.Answer op) Carry)
one op m lop answer carry = Do lop (λ a. acts op above.Room m) (λ a. Ret (record { answer = answer a; carry = carry a }))

-- ---- answers

-- a directory's reference that a walk drops stays, on the call's list; elsewhere the lock is taken in its place, to
-- free the inode
abbrev pub is_listed : DroppedState → Bool
is_listed Counts = false
is_listed Keeps = true
is_listed (Dies n d) = false

abbrev pub is_dying : DroppedState → Bool
is_dying Counts = false
is_dying Keeps = false
is_dying (Dies n d) = true

-- a record that came with a lock
abbrev pub had_of : Option Loaded → Had
had_of None = Apart
had_of (Some l) = Has l NothingMore

-- the lock of inode n, which must be freed, came into hand
abbrev pub with_dying : ℕ → Carry → DroppedState → Carry
with_dying n c Counts = c
with_dying n c Keeps = c
with_dying n c (Dies k d) = put c n (had_of d)

abbrev pub doubled_to : Doubled → Option (Option ℕ)
doubled_to doubled.BadDescriptor = None
doubled_to doubled.Full = Some None
doubled_to (doubled.Gave fd) = Some (Some fd)

abbrev pub shut_to : shuts.Shut → Option (Option ℕ)
shut_to shut.BadDescriptor = None
shut_to shut.Closed = Some None
shut_to (shut.Last n) = Some (Some n)

abbrev pub lent_to : Given → LoanResult
lent_to (given.Descriptor fd more) = Lent fd more
lent_to (given.Directory n) = Moved n

-- the child's old directory; past the last descriptor no descriptor is given
abbrev pub old_directory : Given → ℕ
old_directory (given.Descriptor fd more) = root
old_directory (given.Directory n) = n

abbrev pub cause_of : Refused → Cause
cause_of refused.BadDescriptor = causes.BadDescriptor
cause_of refused.BadMode = causes.BadMode
cause_of refused.NoDriver = causes.NoDriver

abbrev pub cause_if : Option Refused → Option Cause
cause_if None = None
cause_if (Some why) = Some (cause_of why)

-- the transaction is for this inode
abbrev pub joining_to : steps.JoinResult → above.JoinResult
joining_to (steps.RefusesJoin why) = above.NotJoined (cause_of why)
joining_to (steps.Joins n) = above.Joined n

-- ---- programs

-- the lock goes back with the inode's record
abbrev pub give : (n : ℕ) → Handler (UnlockInode n)
give n c m = one (UnlockInode n) m (steps.Unlock (record { number = n; content = record_had (c n) }) None) (λ a. tt) (λ a. put c n Apart)

abbrev pub settle : (n : ℕ) → Handler (SetDirectory n)
settle n c m = one (SetDirectory n) m (steps.SetDirectory (record { number = n; content = record_had (c n) })) (λ a. a) (λ a. put c n Apart)

abbrev pub whom : Bool → Whom
whom true = Number root
whom false = Directory

abbrev pub up_start : (absolute : Bool) → Handler (UpStart absolute)
up_start absolute c m = one (UpStart absolute) m (steps.Up (whom absolute)) (λ a. a) (λ a. c)

abbrev pub up : (n : ℕ) → Handler (Up n)
up n c m = one (Up n) m (steps.Up (Number n)) is_some (λ a. c)

abbrev pub walk_down : (n : ℕ) → Handler (WalkDown n)
walk_down n c m = one (WalkDown n) m (steps.Down (Walked n)) is_listed (λ a. c)

abbrev pub down : (n : ℕ) → Handler (Down n)
down n c m = one (Down n) m (steps.Down (Held n)) is_dying (with_dying n c)

-- that to an inode that the hart has freed
abbrev pub forget : (n : ℕ) → Handler (Forget n)
forget n c m = one (Forget n) m (steps.Down (Freed n)) (λ a. tt) (λ a. c)

abbrev pub slot : Handler Slot
slot c m = one Slot m steps.TakePlace (λ a. a) (λ a. c)

abbrev pub install : (f : OpenFile) (inode_type : InodeType) → Handler (Install f inode_type)
install f inode_type c m = one (Install f inode_type) m (steps.TakeDescriptor f.number (new_file f inode_type)) (λ a. a) (λ a. c)

abbrev pub double : (fd : ℕ) → Handler (Double fd)
double fd c m = one (Double fd) m (steps.Double fd) doubled_to (λ a. c)

abbrev pub close : (fd : ℕ) → Handler (Shut fd)
close fd c m = one (Shut fd) m (steps.Close fd) shut_to (λ a. c)

abbrev pub check_file : (fd : ℕ) → Handler (CheckFile fd)
check_file fd c m = one (CheckFile fd) m (steps.CheckFile want.Write fd) cause_if (λ a. c)

abbrev pub say : Handler Say
say c m = one Say m steps.Reply (λ a. a) (λ a. c)

-- the next descriptor from here on is the child's too, or, if there is none, the directory
abbrev pub lend : (child from : ℕ) → Handler (Lend child from)
lend child from c m = one (Lend child from) m (steps.GiveDescriptor child from) lent_to (λ a. c)

-- the directory is, past the last descriptor
abbrev pub lend_directory : (child : ℕ) → Handler (LendDirectory child)
lend_directory child c m = one (LendDirectory child) m (steps.GiveDescriptor child descriptor_count) old_directory (λ a. c)

-- the child runs again, of which the tables see nothing
abbrev pub release : (child : ℕ) → Handler (Release child)
release child c m = one (Release child) m steps.Reply (λ a. a) (λ a. c)

-- a transaction is joined, if the log has room for it
abbrev pub join : Handler Join
join c m = one Join m steps.Join (λ a. a) (λ a. c)

-- the same for the inode that a descriptor names, if that may be written
abbrev pub join_file : (fd : ℕ) → Handler (JoinFile fd)
join_file fd c m = one (JoinFile fd) m (steps.JoinToWrite fd) joining_to (λ a. c)

-- it is left, with the commit if one begins
abbrev pub leave : Handler Leave
leave c m = Do steps.Leave (λ a. acts Leave above.Room m) (λ a. holding c (after_leave a))

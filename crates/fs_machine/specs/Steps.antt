-- The operations that calls are made of, and what each makes of the state that all harts share.
use Rattle.std.specs.Prelude.{ℕ, List, Bool, Option, Some, None}
use Rattle.fs_machine.specs.Vocabulary.{AfterLeave, ExecResult, Waits, Ran, Stops, exec_result_in}
use Rattle.fs_machine.specs.InMemory.{Inode, Loaded}
use Rattle.fs_machine.specs.declared.files.NewFile.{NewFile}
use Rattle.fs_machine.specs.declared.files.OpenFile.{OpenFile}
use Rattle.fs_machine.specs.declared.files.Want.{Want}
use Rattle.fs_machine.specs.declared.files.Want.TheVariants as want
use Rattle.fs_machine.specs.declared.files.Refused.{Refused}
use Rattle.fs_machine.specs.declared.slots.Doubled.{Doubled}
use Rattle.fs_machine.specs.declared.slots.Doubled.TheVariants as doubled
use Rattle.fs_machine.specs.declared.slots.Shut.{Shut}
use Rattle.fs_machine.specs.declared.slots.Shut.TheVariants as shut
use Rattle.fs_machine.specs.declared.slots.Given.{Given}
use Rattle.fs_machine.specs.declared.slots.Given.TheVariants as given
use Rattle.fs_machine.specs.Tables.{TablesState, file_named}
use Rattle.fs_machine.specs.Inodes.{LockedState, Refuses, Locks, DroppedState, Counts, Keeps, Dies, refusal_of, lock_inode, lock_file, unlock_inode, settle_inode, up_inode, up_directory, drop_inode, drop_walked, drop_freed, first_free}
use Rattle.fs_machine.specs.Files.{take_place, open_file, double_descriptor, shut_descriptor, give_next}
use Rattle.fs_machine.specs.LogPart.{LogPart, part_of, Outside, join_log, leave_log, get_block, read_block, put_block, commit_log}
use Rattle.fs_machine.specs.declared.shared.Core.{Core}
use Rattle.fs_machine.specs.declared.kind.Kind.{Kind}
use Rattle.fs_machine.specs.declared.kind.Kind.TheVariants as kind

-- all that harts share: the log, and the tables of inodes in memory, open files and descriptors
pub record State : Type 0 where
  pub log : LogPart
  pub tables : TablesState

-- what that is of the code's, over a device
abbrev pub state_of : {D : Type 0} → (D → List (List ℕ)) → (D → ℕ) → Core D → State
state_of contents failures c = record { log = part_of contents failures c.log; tables = c.tables }

-- to what a reference is wanted
pub data Whom : Type 0 where
  Number : ℕ → Whom
  -- the hart's current directory
  Directory : Whom

-- which reference is dropped
pub data Drop : Type 0 where
  -- one in hand
  Held : ℕ → Drop
  -- one in hand, within a walk
  Walked : ℕ → Drop
  -- the one that is left to an inode that this hart has freed
  Freed : ℕ → Drop

pub data Op : Type 0 where
  -- joins a transaction
  Join : Op
  -- the same if this descriptor may be written
  JoinToWrite : ℕ → Op
  -- leaves it
  Leave : Op
  -- takes a block's buffer
  Get : ℕ → Op
  -- reads the block from the device into the held buffer
  Read : ℕ → Op
  -- gives the buffer back: recorded with these bytes, or as it was
  Put : ℕ → Option (List ℕ) → Op
  -- one write of the commit
  Commit : Op
  -- takes an inode's lock; or that of what a descriptor names, if it may be had for this
  Lock : ℕ → Op
  LockFile : Want → ℕ → Op
  -- that of what a descriptor names that is known to be open
  LockOpen : ℕ → Op
  -- gives a lock back with this inode; and the file of this descriptor has this offset from now on
  Unlock : Inode → Option (ℕ × ℕ) → Op
  -- the same, and the inode is the hart's current directory from now on
  SetDirectory : Inode → Op
  -- one reference more
  Up : Whom → Op
  -- one to the first of these inodes to which there is none; if there is no such one this block's buffer is given back
  Claim : ℕ → List ℕ → Op
  -- one reference less
  Down : Drop → Op
  -- whether a descriptor may be had for this
  CheckFile : Want → ℕ → Op
  -- takes a place for an open file
  TakePlace : Op
  -- opens a file there, for this inode, by the lowest free descriptor
  TakeDescriptor : ℕ → NewFile → Op
  -- one descriptor more for what this one names
  Double : ℕ → Op
  -- a descriptor goes
  Close : ℕ → Op
  -- to this child the next descriptor from this one on; if there is none the directory
  GiveDescriptor : ℕ → ℕ → Op
  -- gives the reply
  Reply : Op

pub data JoinResult : Type 0 where
  RefusesJoin : Refused → JoinResult
  -- for the inode of this number
  Joins : ℕ → JoinResult

pub data ClaimResult : Type 0 where
  Claims : ℕ → ClaimResult
  -- each of the fifty places is referred to
  NoPlace : ClaimResult
  -- none of them, and the buffer was given back
  NoInode : ClaimResult

abbrev pub Answer : Op → Type 0
Answer Join = Unit {0}
Answer (JoinToWrite fd) = JoinResult
-- whether a commit begins
Answer Leave = AfterLeave
-- the bytes if the buffer is valid
Answer (Get b) = Option (List ℕ)
Answer (Read b) = List ℕ
Answer (Put b change) = Unit {0}
-- whether it ended
Answer Commit = Bool
-- the inode where it is loaded
Answer (Lock n) = Option Loaded
Answer (LockFile w fd) = LockedState
Answer (LockOpen fd) = OpenFile × Option Loaded
Answer (Unlock v moved) = Unit {0}
-- the old directory, to which the reference is in hand now
Answer (SetDirectory v) = ℕ
-- the inode's number; None if each of the fifty places is referred to
Answer (Up whom) = Option ℕ
Answer (Claim b candidates) = ClaimResult
Answer (Down drop) = DroppedState
-- why not
Answer (CheckFile w fd) = Option Refused
-- whether there was one
Answer TakePlace = Bool
-- the descriptor; None if all are open, and then the place was given back
Answer (TakeDescriptor n file) = Option ℕ
Answer (Double fd) = Doubled
Answer (Close fd) = Shut
Answer (GiveDescriptor child from) = Given
Answer Reply = Unit {0}

abbrev pub in_log : {A : Type 0} → State → ExecResult A LogPart → ExecResult A State
in_log s d = exec_result_in (λ l. record s { log = l }) d

abbrev pub in_tables : {A : Type 0} → State → ExecResult A TablesState → ExecResult A State
in_tables s d = exec_result_in (λ t. record s { tables = t }) d

abbrev pub joins : OpenFile → ExecResult (Unit {0}) State → ExecResult JoinResult State
joins f Waits = Waits
joins f (Ran a s) = Ran (Joins f.number) s
joins f (Stops s) = Stops s

abbrev pub join_unless : ℕ → State → Option OpenFile → Option Refused → ExecResult JoinResult State
join_unless h s f (Some why) = Ran (RefusesJoin why) s
join_unless h s None None = Waits
join_unless h s (Some f) None = joins f (in_log s (join_log h s.log))

abbrev pub with_open : OpenFile → ExecResult (Option Loaded) TablesState → ExecResult (OpenFile × Option Loaded) TablesState
with_open f Waits = Waits
with_open f (Ran content t) = Ran (f, content) t
with_open f (Stops t) = Stops t

abbrev pub lock_open : ℕ → TablesState → Option OpenFile → ExecResult (OpenFile × Option Loaded) TablesState
lock_open h t None = Waits
lock_open h t (Some f) = with_open f (lock_inode h f.number t)

abbrev pub up_whom : ℕ → Whom → TablesState → ExecResult (Option ℕ) TablesState
up_whom h (Number n) t = up_inode n t
up_whom h Directory t = up_directory h t

abbrev pub claims : ExecResult (Option ℕ) State → ExecResult ClaimResult State
claims Waits = Waits
claims (Ran None s) = Ran NoPlace s
claims (Ran (Some n) s) = Ran (Claims n) s
claims (Stops s) = Stops s

abbrev pub claim_first : ℕ → ℕ → State → Option ℕ → ExecResult ClaimResult State
claim_first h b s None = Ran NoInode (record s { log = put_block h b None s.log })
claim_first h b s (Some n) = claims (in_tables s (up_inode n s.tables))

abbrev pub drop_which : ℕ → Drop → TablesState → ExecResult DroppedState TablesState
drop_which h (Held n) t = drop_inode h n t
drop_which h (Walked n) t = drop_walked n t
drop_which h (Freed n) t = drop_freed n t

-- what an operation makes of the state in hart h's hand, if the device answers x
unfoldable pub exec : ℕ → Outside → (op : Op) → State → ExecResult (Answer op) State
exec h x Join s = in_log s (join_log h s.log)
exec h x (JoinToWrite fd) s = join_unless h s (file_named h fd s.tables) (refusal_of want.Write (file_named h fd s.tables))
exec h x Leave s = in_log s (leave_log h s.log)
exec h x (Get b) s = in_log s (get_block h b s.log)
exec h x (Read b) s = in_log s (read_block b x s.log)
exec h x (Put b change) s = Ran tt (record s { log = put_block h b change s.log })
exec h x Commit s = in_log s (commit_log x s.log)
exec h x (Lock n) s = in_tables s (lock_inode h n s.tables)
exec h x (LockFile w fd) s = in_tables s (lock_file h w fd s.tables)
exec h x (LockOpen fd) s = in_tables s (lock_open h s.tables (file_named h fd s.tables))
exec h x (Unlock v moved) s = Ran tt (record s { tables = unlock_inode h v moved s.tables })
exec h x (SetDirectory v) s = in_tables s (settle_inode h v s.tables)
exec h x (Up whom) s = in_tables s (up_whom h whom s.tables)
exec h x (Claim b candidates) s = claim_first h b s (first_free s.tables.entries candidates)
exec h x (Down drop) s = in_tables s (drop_which h drop s.tables)
exec h x (CheckFile w fd) s = Ran (refusal_of w (file_named h fd s.tables)) s
exec h x TakePlace s = in_tables s (take_place h s.tables)
exec h x (TakeDescriptor n file) s = in_tables s (open_file h n file s.tables)
exec h x (Double fd) s = in_tables s (double_descriptor h fd s.tables)
exec h x (Close fd) s = in_tables s (shut_descriptor h fd s.tables)
exec h x (GiveDescriptor child from) s = in_tables s (give_next h child from s.tables)
exec h x Reply s = Ran tt s

-- ---- of which kind an operation with its answer is

-- what is refused by its descriptor is a reply and nothing else
abbrev pub kind_joined : JoinResult → Kind
kind_joined (RefusesJoin why) = kind.Reply
kind_joined (Joins n) = kind.Join

abbrev pub kind_locked : LockedState → Kind
kind_locked (Refuses why) = kind.Reply
kind_locked (Locks file content) = kind.Lock

abbrev pub kind_claimed : ClaimResult → Kind
kind_claimed (Claims n) = kind.Up
kind_claimed NoPlace = kind.Up
kind_claimed NoInode = kind.Put

-- the last reference to a dead inode isn't counted down: its lock is taken, but within a walk
abbrev pub kind_dropped : DroppedState → Kind
kind_dropped Counts = kind.Down
kind_dropped Keeps = kind.Down
kind_dropped (Dies n inode) = kind.Lock

abbrev pub kind_doubled : Doubled → Kind
kind_doubled doubled.BadDescriptor = kind.Reply
kind_doubled doubled.Full = kind.Slot
kind_doubled (doubled.Gave fd) = kind.Slot

abbrev pub kind_shut : Shut → Kind
kind_shut shut.BadDescriptor = kind.Reply
kind_shut shut.Closed = kind.Slot
kind_shut (shut.Last n) = kind.Slot

abbrev pub kind_given : Given → Kind
kind_given (given.Descriptor fd more) = kind.Slot
kind_given (given.Directory n) = kind.Up

abbrev pub kind_of : (op : Op) → Answer op → Kind
kind_of Join a = kind.Join
kind_of (JoinToWrite fd) a = kind_joined a
kind_of Leave a = kind.Leave
kind_of (Get b) a = kind.Get
kind_of (Read b) a = kind.Read
kind_of (Put b change) a = kind.Put
kind_of Commit a = kind.Commit
kind_of (Lock n) a = kind.Lock
kind_of (LockFile w fd) a = kind_locked a
kind_of (LockOpen fd) a = kind.Lock
kind_of (Unlock v moved) a = kind.Unlock
kind_of (SetDirectory v) a = kind.Unlock
kind_of (Up whom) a = kind.Up
kind_of (Claim b candidates) a = kind_claimed a
kind_of (Down drop) a = kind_dropped a
kind_of (CheckFile w fd) a = kind.Reply
kind_of TakePlace a = kind.Slot
kind_of (TakeDescriptor n file) a = kind.Slot
kind_of (Double fd) a = kind_doubled a
kind_of (Close fd) a = kind_shut a
kind_of (GiveDescriptor child from) a = kind_given a
kind_of Reply a = kind.Reply

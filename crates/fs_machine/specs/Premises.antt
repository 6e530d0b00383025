-- When an operation may be made, what the device may answer to it, and when it may wait.
use Rattle.std.specs.Prelude.{◌≡◌, ◌≢◌, ℕ, ◌+◌, ◌^◌, ◌<◌, ◌≤◌, List, length, false, Option, Some, None, IsSome, IsTrue, IfSome, slice_get}
use Rattle.fs_machine.specs.Vocabulary.{MatchOption, IsOutsideLog, count_of, is_held_by, holder_of, kept, hart_count, Open, Halted, joined, has, HasRoom, IsMember, IsHome, limit_of, turn_is_out, join_waits}
use Rattle.fs_machine.specs.declared.files.OpenFile.{OpenFile}
use Rattle.fs_machine.specs.Lists.{next_full}
use Rattle.fs_machine.specs.Tables.{TablesState, references_of, owed, holder_of as lock_holder, file_named}
use Rattle.fs_machine.specs.Inodes.{directory_of}
use Rattle.fs_machine.specs.Files.{hand_of, descriptors_of}
use Rattle.fs_machine.specs.LogPart.{LogPart, Outside, written, LeavesIt, LeavesOne}
use Rattle.fs_machine.specs.Steps.{State, Op, Join, JoinToWrite, Leave, Get, Read, Put, Commit, Lock, LockFile, LockOpen, Unlock, SetDirectory, Up, Claim, Down, CheckFile, TakePlace, TakeDescriptor, Double, Close, GiveDescriptor, Reply, Whom, Number, Directory, Drop, Held, Walked, Freed}

-- ---- what an operation asks

abbrev pub MayJoin : ℕ → LogPart → Type 0
MayJoin h l = (h < hart_count) × (slice_get l.members h ≡ Some None)

-- what a hart may change of a block's buffer in its hand
abbrev pub MayRecord : ℕ → ℕ → LogPart → Option (List ℕ) → Type 0
MayRecord h b l None = Unit {0}
MayRecord h b l (Some bytes) = IsSome (kept b l.seats) × IsMember l.members h × (l.phase ≢ Halted) × IsHome l.contents l.sizes b
    × (has l.group b ≡ false → HasRoom l.members h)

abbrev pub MayPut : ℕ → ℕ → Option (List ℕ) → LogPart → Type 0
MayPut h b change l = (holder_of b l.seats ≡ Some h) × IsOutsideLog l.sizes b × MayRecord h b l change

-- an inode's lock may be tried by a hart that hasn't got it, if there is a reference
abbrev pub MayLock : ℕ → ℕ → TablesState → Type 0
MayLock h n t = (0 < references_of n t) × (lock_holder n t ≢ Some h)

-- the same of an open file's, which has a number that a directory's entry can say
abbrev pub MayLockFile : ℕ → Option OpenFile → TablesState → Type 0
MayLockFile h file t = IfSome file (λ f. (f.number < 2 ^ 16) × (lock_holder f.number t ≢ Some h))

-- the same of one that is known to be open
abbrev pub MayLockOpen : ℕ → Option OpenFile → TablesState → Type 0
MayLockOpen h file t = MatchOption file ⊥ (λ f. (f.number < 2 ^ 16) × (lock_holder f.number t ≢ Some h))

-- the file that a descriptor names is this inode's
abbrev pub MayMove : ℕ → ℕ → Option (ℕ × ℕ) → TablesState → Type 0
MayMove h n None t = Unit {0}
MayMove h n (Some (fd, offset)) t = (offset < 2 ^ 32) × IfSome (file_named h fd t) (λ f. f.number ≡ n)

abbrev pub MayUp : ℕ → TablesState → Type 0
MayUp n t = (n < 2 ^ 32) × (references_of n t + 1 < 2 ^ 32)

-- A reference in hand is one that the tables don't have; nobody has the lock where it is the last.
abbrev pub HasReference : ℕ → TablesState → Type 0
HasReference n t = owed n t < references_of n t

abbrev pub MayDrop : ℕ → TablesState → Type 0
MayDrop n t = references_of n t ≡ 1 → lock_holder n t ≡ None

abbrev pub MayDown : ℕ → Drop → TablesState → Type 0
MayDown h (Held n) t = HasReference n t × MayDrop n t
MayDown h (Walked n) t = HasReference n t × MayDrop n t
MayDown h (Freed n) t = HasReference n t × MayDrop n t

-- the child is another hart, without descriptors from here on
abbrev pub MayGive : ℕ → ℕ → ℕ → TablesState → Type 0
MayGive h child from t = (h < hart_count) × (child < hart_count) × (child ≢ h)
    × (next_full from (descriptors_of (slice_get t.desks child)) ≡ None) × MayUp (directory_of (slice_get t.desks h)) t

abbrev pub MayUpWhom : ℕ → Whom → TablesState → Type 0
MayUpWhom h (Number n) t = MayUp n t
MayUpWhom h Directory t = (h < hart_count) × MayUp (directory_of (slice_get t.desks h)) t

unfoldable pub May : ℕ → Op → State → Type 0
May h Join s = MayJoin h s.log
May h (JoinToWrite fd) s = MayJoin h s.log
May h Leave s = IsMember s.log.members h × (s.log.phase ≢ Halted)
May h (Get b) s =
    (h < hart_count) × (count_of (is_held_by h) s.log.seats ≤ 1) × IsOutsideLog s.log.sizes b × (holder_of b s.log.seats ≢ Some h)
May h (Read b) s =
    (holder_of b s.log.seats ≡ Some h) × IsOutsideLog s.log.sizes b × (kept b s.log.seats ≡ None) × (b < length s.log.contents)
May h (Put b change) s = MayPut h b change s.log
May h Commit s = (h < hart_count) × (count_of (is_held_by h) s.log.seats ≡ 0) × (s.log.phase ≢ Open) × (s.log.phase ≢ Halted)
May h (Lock n) s = MayLock h n s.tables
May h (LockFile want fd) s = (h < hart_count) × MayLockFile h (file_named h fd s.tables) s.tables
May h (LockOpen fd) s = (h < hart_count) × MayLockOpen h (file_named h fd s.tables) s.tables
May h (Unlock v moved) s = (lock_holder v.number s.tables ≡ Some h) × MayMove h v.number moved s.tables
May h (SetDirectory v) s = (h < hart_count) × (lock_holder v.number s.tables ≡ Some h) × HasReference v.number s.tables
May h (Up whom) s = MayUpWhom h whom s.tables
May h (Claim b candidates) s = MayPut h b None s.log
May h (Down drop) s = MayDown h drop s.tables
May h (CheckFile want fd) s = h < hart_count
May h TakePlace s = (h < hart_count) × (hand_of (slice_get s.tables.desks h) ≡ None)
May h (TakeDescriptor n file) s = (h < hart_count) × IsSome (hand_of (slice_get s.tables.desks h)) × HasReference n s.tables
May h (Double fd) s = h < hart_count
May h (Close fd) s = h < hart_count
May h (GiveDescriptor child from) s = MayGive h child from s.tables
May h Reply s = Unit {0}

-- ---- what the device may answer: it fails at a read or a write alone, and leaves the blocks as before or with that write

unfoldable pub Honest : ℕ → Op → State → Outside → Type 0
Honest h Join s x = Unit {0}
Honest h (JoinToWrite fd) s x = Unit {0}
Honest h Leave s x = Unit {0}
Honest h (Get b) s x = Unit {0}
Honest h (Read b) s x = LeavesIt s.log.contents x
Honest h (Put b change) s x = Unit {0}
Honest h Commit s x = LeavesOne s.log.contents (written s.log) x
Honest h (Lock n) s x = Unit {0}
Honest h (LockFile want fd) s x = Unit {0}
Honest h (LockOpen fd) s x = Unit {0}
Honest h (Unlock v moved) s x = Unit {0}
Honest h (SetDirectory v) s x = Unit {0}
Honest h (Up whom) s x = Unit {0}
Honest h (Claim b candidates) s x = Unit {0}
Honest h (Down drop) s x = Unit {0}
Honest h (CheckFile want fd) s x = Unit {0}
Honest h TakePlace s x = Unit {0}
Honest h (TakeDescriptor n file) s x = Unit {0}
Honest h (Double fd) s x = Unit {0}
Honest h (Close fd) s x = Unit {0}
Honest h (GiveDescriptor child from) s x = Unit {0}
Honest h Reply s x = Unit {0}

-- ---- when it may wait: for what is in another hart's hand, for the log, and for nothing else

abbrev pub IsElsewhere : ℕ → Option ℕ → Type 0
IsElsewhere h o = (g : ℕ) × (g ≢ h) × (o ≡ Some g)

abbrev pub JoinWaits : LogPart → Type 0
JoinWaits l = IsTrue (join_waits l.phase (length l.group) (joined l.members) (limit_of l.sizes))

unfoldable pub MayWait : ℕ → Op → State → Type 0
MayWait h Join s = JoinWaits s.log
MayWait h (JoinToWrite fd) s = JoinWaits s.log
MayWait h Leave s = ⊥
MayWait h (Get b) s = IsElsewhere h (holder_of b s.log.seats)
MayWait h (Read b) s = ⊥
MayWait h (Put b change) s = ⊥
MayWait h Commit s = IsTrue (turn_is_out s.log.seats s.log.group s.log.phase)
MayWait h (Lock n) s = IsElsewhere h (lock_holder n s.tables)
MayWait h (LockFile want fd) s = MatchOption (file_named h fd s.tables) ⊥ (λ f. IsElsewhere h (lock_holder f.number s.tables))
MayWait h (LockOpen fd) s = MatchOption (file_named h fd s.tables) ⊥ (λ f. IsElsewhere h (lock_holder f.number s.tables))
MayWait h (Unlock v moved) s = ⊥
MayWait h (SetDirectory v) s = ⊥
MayWait h (Up whom) s = ⊥
MayWait h (Claim b candidates) s = ⊥
MayWait h (Down drop) s = ⊥
MayWait h (CheckFile want fd) s = ⊥
MayWait h TakePlace s = ⊥
MayWait h (TakeDescriptor n file) s = ⊥
MayWait h (Double fd) s = ⊥
MayWait h (Close fd) s = ⊥
MayWait h (GiveDescriptor child from) s = ⊥
MayWait h Reply s = ⊥

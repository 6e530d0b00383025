-- What the programs below of operations record, and that it is no more than their call's transactions may.
use Rattle.std.specs.Prelude.{◌≡◌, ◌⊎◌, ℕ, suc, Bool, ◌<◌, ◌≤◌, List, [], Option, Some}
use Rattle.inodes_on_blocks.specs.Vocabulary.{Super, Version, OpenFile, Name, hart_count, Wp, Ret, Do, once, Both, joined, Below, Lasts, Budget, LogPart, Query, InodeType, Take, UnlockInode, UpStart, Up, WalkDown, Down, Forget, Free, Claim, Store, Clear, Empty, Slot, Install, StatFile, LockFile, ReadFile, LockOpen, CheckFile, JoinFile, Double, Shut, SetDirectory, Lend, LendDirectory, Release, Join, Leave, Say, more, Spent, unspent, size, spent_after, most_recorded, with_contents}
use Rattle.fs_machine.specs.Steps as steps
use Rattle.inode_machine.specs.World as above
use Rattle.inodes_on_blocks.specs.Basics.{World, log_of, Carry, Stands, below, Labels, labelled, P, Handler, give, settle, up_start, up, walk_down, down, forget, slot, install, double, close, check_file, lend, lend_directory, release, join, join_file, leave, say, store, whole, IsDone, Answers, used, Accounts, IsSpent}
use Rattle.inodes_on_blocks.specs.Reading.{stat_file, take}
use Rattle.inodes_on_blocks.specs.Files.{lock_file, lock_open, read_file}
use Rattle.inodes_on_blocks.specs.Making.{claim}
use Rattle.inodes_on_blocks.specs.Naming.{clear}
use Rattle.inodes_on_blocks.specs.Emptying.{empty, free}
use Rattle.inodes_on_blocks.specs.Room.{HasSpent, DoesItSpending}

-- what the operations on whole inodes spend, and that it is at most ten blocks
abbrev pub recorded_blocks : (version : Version) (l : Labels) → Budget (labelled version l)
recorded_blocks version l = record { Spent = Spent; after = spent_after; Allowed = λ s. size s ≤ most_recorded }

-- ---- what a program records, by its text

-- this is no more than that, whatever the group has
abbrev pub NoMore : Spent → Spent → Type 0
NoMore s t = (l : LogPart) → used l s ≤ used l t

-- If s was spent before the step, r is after it. A block that s names is recorded, or one more; a transaction begins
-- with nothing.
abbrev pub LeadsTo : Super → Spent → steps.Op → Spent → Type 0
LeadsTo sizes s (steps.Put b (Some bytes)) r = (IsSpent sizes s b × (r ≡ s)) ⊎ (r ≡ with_contents 1 s)
LeadsTo sizes s steps.Join r = r ≡ unspent
LeadsTo sizes s (steps.JoinToWrite fd) r = r ≡ unspent
LeadsTo sizes s op r = r ≡ s

-- from s on the program spends no more than t, whatever its steps answer
abbrev pub Records : Super → {A : Type 0} → Spent → P A → Spent → Type 0
Records sizes s (Ret a) t = NoMore s t
Records sizes s (Do op m k) t =
    (q : Spent) × NoMore s q × ((a : steps.Answer op) → (r : Spent) × LeadsTo sizes q op r × Records sizes r (k a) t)

-- an operation's program records what the operation spends
abbrev pub Spends : Super → (op : above.Op) → Handler op → Type 0
Spends sizes op p = (c : Carry) (m : above.Answer op → Option above.Mark) (s : Spent) → Records sizes s (p c m) (spent_after op s)

-- so do these
pub record ProgramsSpend (sizes : Super) : Type 0 where
  pub take : (n : ℕ) (looking : Query) → Spends sizes (Take n looking) (take sizes n looking)
  pub give : (n : ℕ) → Spends sizes (UnlockInode n) (give n)
  pub up_start : (absolute : Bool) → Spends sizes (UpStart absolute) (up_start absolute)
  pub up : (n : ℕ) → Spends sizes (Up n) (up n)
  pub walk_down : (n : ℕ) → Spends sizes (WalkDown n) (walk_down n)
  pub down : (n : ℕ) → Spends sizes (Down n) (down n)
  pub forget : (n : ℕ) → Spends sizes (Forget n) (forget n)
  pub free : (n : ℕ) → Spends sizes (Free n) (free sizes n)
  pub claim : (inode_type : InodeType) → Spends sizes (Claim inode_type) (claim sizes inode_type)
  pub clear : (n : ℕ) (e : Name) → Spends sizes (Clear n e) (clear sizes n e)
  pub store : (n count : ℕ) → Spends sizes (Store n count) (store sizes n count)
  pub empty : (n : ℕ) → Spends sizes (Empty n) (empty sizes n)
  pub slot : Spends sizes Slot slot
  pub install : (f : OpenFile) (inode_type : InodeType) → Spends sizes (Install f inode_type) (install f inode_type)
  pub stat_file : (fd : ℕ) → Spends sizes (StatFile fd) (stat_file sizes fd)
  pub lock_file : (fd : ℕ) → Spends sizes (LockFile fd) (lock_file sizes fd)
  pub lock_open : (fd n : ℕ) → Spends sizes (LockOpen fd n) (lock_open sizes fd n)
  pub read_file : (fd n offset count : ℕ) → Spends sizes (ReadFile fd n offset count) (read_file fd n offset count)
  pub check_file : (fd : ℕ) → Spends sizes (CheckFile fd) (check_file fd)
  pub join_file : (fd : ℕ) → Spends sizes (JoinFile fd) (join_file fd)
  pub double : (fd : ℕ) → Spends sizes (Double fd) (double fd)
  pub close : (fd : ℕ) → Spends sizes (Shut fd) (close fd)
  pub settle : (n : ℕ) → Spends sizes (SetDirectory n) (settle n)
  pub lend : (child from : ℕ) → Spends sizes (Lend child from) (lend child from)
  pub lend_directory : (child : ℕ) → Spends sizes (LendDirectory child) (lend_directory child)
  pub release : (child : ℕ) → Spends sizes (Release child) (release child)
  pub join : Spends sizes Join join
  pub leave : Spends sizes Leave leave
  pub say : Spends sizes Say say

-- ---- within a call's transactions

-- Whatever the operation alone is shown to do above, under any history, this program does below. The hart's
-- transaction must have spent no more than s, and s with what the operation spends must be no more than it may. After
-- it the transaction has spent no more than that.
abbrev pub ActsWithin : Super → (l : Labels) → ℕ → (op : above.Op) → (above.Answer op → Option above.Mark) → Handler op → Type 1
ActsWithin sizes l h op m p =
    (c : Carry) (s : Spent) (B : List l.Step → Type 0) (C : above.Answer op → List l.Step → above.World → Type 0) (es : List l.Step)
    (w : Both World above.World)
    → Lasts (labelled sizes.version l) h B C → Wp (labelled sizes.version l) h B C (once op m) (suc (more op)) es w.seen
    → Stands sizes h w.real w.seen c
    → size (spent_after op s) ≤ most_recorded → HasSpent sizes h s w.real
    → Wp (joined (labelled sizes.version l) (below sizes)) h B
    (λ r fs u. Below (labelled sizes.version l) (below sizes) h C r fs u × HasSpent sizes h (spent_after op s) u.real)
    (p c m) (suc (more op)) es w

-- the same with the history that is the operations themselves
abbrev pub DoesItWithin : Super → (op : above.Op) → Handler op → Type 0
DoesItWithin sizes op p =
    (h : ℕ) (s : Spent) (m : above.Answer op → Option above.Mark) (c : Carry) (w : Both World above.World) → h < hart_count
    → size (spent_after op s) ≤ most_recorded
    → Wp (whole sizes.version) h (IsDone op) (Answers op) (once op m) (suc (more op)) [] w.seen → Stands sizes h w.real w.seen c
    → Accounts h (log_of w.real) s
    → Wp (joined (whole sizes.version) (below sizes)) h (IsDone op)
    (λ r es u. Below (whole sizes.version) (below sizes) h (Answers op) r es u × HasSpent sizes h (spent_after op s) u.real)
    (p c m) (suc (more op)) [] w

-- A program that records what its operation spends leaves no more spent, if it does the operation when the
-- transaction has room for that.
abbrev pub ProgramsStayWithin : Type 0
ProgramsStayWithin =
    (sizes : Super) (op : above.Op) (p : Handler op) → Spends sizes op p → DoesItSpending sizes op p → DoesItWithin sizes op p

-- So those of the operations that record.
pub record RecordingsStayWithin (sizes : Super) : Type 0 where
  pub store : (n count : ℕ) → DoesItWithin sizes (Store n count) (store sizes n count)
  pub clear : (n : ℕ) (e : Name) → DoesItWithin sizes (Clear n e) (clear sizes n e)
  pub empty : (n : ℕ) → DoesItWithin sizes (Empty n) (empty sizes n)
  pub free : (n : ℕ) → DoesItWithin sizes (Free n) (free sizes n)

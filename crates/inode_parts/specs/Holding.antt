-- What an operation on whole inodes leaves in hand, and programs that find in hand what their operations ask.
use Rattle.std.specs.Prelude.{◌≡◌, ◌<◌, ◌^◌, ℕ, List, [], ◌∷◌, ◌++◌, Bool, true, false, Option, Some, None, IsSome, IfSome}
use Rattle.inode_parts.specs.Vocabulary.{Reply, Version, Ret, Do, GuardState, Inode, Hand, InodePlace, inode_at, with_aside, with_first, with_inode, with_listed, with_reference, with_seated, with_txn, IsEmpty, unloaded, IsLoadedAt, AtEntries, AtName, AtNothing, Query, Sight}
use Rattle.inode_machine.specs.Inodes.{Face}
use Rattle.inode_machine.specs.Parts as programs
use Rattle.inode_machine.specs.World as above
use Rattle.inode_parts.specs.Basics.{note_at, HasFreeSeat, HasReference, free_seat, other, seat_of_lock, seat_of_reference}
use Rattle.inode_parts.specs.Clears.{HasFound}
use Rattle.inode_parts.specs.declared.note.Note.{Note}
use Rattle.inode_parts.specs.declared.note.Note.TheVariants as note
use Rattle.inode_parts.specs.declared.note.Notes.{Notes}

-- what a hart has in hand, and what its call has learned of that
pub record Having : Type 0 where
  pub hand : Hand
  pub notes : Notes

-- ---- what is in hand after an operation, by its answer

-- a reference more, or none, if there was none
abbrev pub Referred : Option ℕ → Hand → Hand → Type 0
Referred r before h = h ≡ with_reference (free_seat before) r before

-- .. aside if no seat is free
abbrev pub ReferredOrAside : Option ℕ → Hand → Hand → Type 0
ReferredOrAside r before h = (HasFreeSeat before → Referred r before h) × ((HasFreeSeat before → ⊥) → h ≡ with_aside r before)

-- the reference to inode n is gone
abbrev pub Dropped : ℕ → Hand → Hand → Type 0
Dropped n before h = h ≡ with_reference (seat_of_reference n before) None before

-- the lock of inode n went to this seat, and that is loaded
abbrev pub CameTo : InodePlace → ℕ → Hand → Hand → Type 0
CameTo k n before h = (g : GuardState Inode) × (h ≡ with_inode k (Some g) before) × (g.value.number ≡ n) × IsSome g.value.content

-- .. to the seat of the reference to it
abbrev pub Locked : ℕ → Hand → Hand → Type 0
Locked n before h = CameTo (seat_of_reference n before) n before h

-- .. with the first listed reference
abbrev pub Relocked : ℕ → Hand → Hand → Type 0
Relocked n before h = CameTo (free_seat before) n (with_first (free_seat before) before) h

-- .. to a seat without one
abbrev pub Opened : ℕ → Hand → Hand → Type 0
Opened n before h = (k : InodePlace) × (inode_at k before ≡ None) × CameTo k n before h

-- the lock of inode n is gone
abbrev pub Unlocked : ℕ → Hand → Hand → Type 0
Unlocked n before h = h ≡ with_inode (seat_of_lock n before) None before

-- only what is loaded of inode n changed, whose lock is in hand ..
abbrev pub Reloaded : ℕ → Hand → Hand → Type 0
Reloaded n before h = unloaded (seat_of_lock n before) h ≡ unloaded (seat_of_lock n before) before

-- .. and its record is there
abbrev pub Changed : ℕ → Hand → Hand → Type 0
Changed n before h = Reloaded n before h × IsLoadedAt (seat_of_lock n before) h

-- a transaction is joined
abbrev pub Joined : Hand → Hand → Type 0
Joined before h = (t : ℕ) × (h ≡ with_txn (Some t) before)

-- a record has no higher count
abbrev pub IsCounted : Sight → Type 0
IsCounted s = IfSome s.face (λ (f : Face). f.count < 2 ^ 15)

-- the first inode of the call's list, to which no reference is at a seat, comes with one
abbrev pub LeavesTake : ℕ → Hand → Hand → Type 0
LeavesTake n before h = (HasReference n before → Locked n before h) × ((HasReference n before → ⊥) → Relocked n before h)

abbrev pub LeavesUp : ℕ → Bool → Hand → Hand → Type 0
LeavesUp n true before h = ReferredOrAside (Some n) before h
LeavesUp n false before h = ReferredOrAside None before h

-- within a walk the last reference to a dead inode is listed, after the others, and one that is aside moves to its
-- seat
abbrev pub LeavesWalkDown : ℕ → Bool → Hand → Hand → Type 0
LeavesWalkDown n true before h = h ≡ with_listed (before.listed ++ n ∷ []) (with_seated (seat_of_reference n before) before)
LeavesWalkDown n false before h = h ≡ with_seated (seat_of_reference n before) before

-- the lock of a dead inode comes in its place
abbrev pub LeavesDown : ℕ → Bool → Hand → Hand → Type 0
LeavesDown n true before h = Locked n before h
LeavesDown n false before h = Dropped n before h

-- numbers to be claimed aren't asked of
abbrev pub without_numbers : Hand → Hand
without_numbers h = record h { numbers = []; count = 0 }

abbrev pub LeavesClaim : above.ClaimResult → Hand → Hand → Type 0
LeavesClaim (above.New n) before h = without_numbers h ≡ without_numbers (with_reference (free_seat before) (Some n) before)
LeavesClaim above.NoInode before h = without_numbers h ≡ without_numbers before
LeavesClaim above.NoPlace before h = without_numbers h ≡ without_numbers before

abbrev pub LeavesInstall : ℕ → Option ℕ → Hand → Hand → Type 0
LeavesInstall n (Some fd) before h = Dropped n before h
LeavesInstall n None before h = h ≡ before

abbrev pub LeavesStat : Option (ℕ × Face) → Hand → Hand → Type 0
LeavesStat (Some s) before h = Opened s.0 before h
LeavesStat None before h = h ≡ before

abbrev pub LeavesLockFile : above.LockResult → Hand → Hand → Type 0
LeavesLockFile (above.LocksIt n offset) before h = Opened n before h
LeavesLockFile (above.NotLocked why) before h = h ≡ before

abbrev pub LeavesJoinFile : above.JoinResult → Hand → Hand → Type 0
LeavesJoinFile (above.Joined n) before h = Joined before h
LeavesJoinFile (above.NotJoined why) before h = h ≡ before

-- with the last descriptor the open file's reference comes
abbrev pub LeavesShut : Option (Option ℕ) → Hand → Hand → Type 0
LeavesShut (Some (Some n)) before h = Referred (Some n) before h
LeavesShut (Some None) before h = h ≡ before
LeavesShut None before h = h ≡ before

-- with the directory that to the child's old one
abbrev pub LeavesLend : above.LoanResult → Hand → Hand → Type 0
LeavesLend (above.Lent fd more) before h = h ≡ before
LeavesLend (above.Moved n) before h = Referred (Some n) before h

-- the reference is to the directory that was current
abbrev pub LeavesSettle : ℕ → ℕ → Hand → Hand → Type 0
LeavesSettle n old before h = h ≡ with_reference (seat_of_lock n before) (Some old) (with_inode (seat_of_lock n before) None before)

abbrev pub LeavesHand : (op : above.Op) → above.Answer op → Hand → Hand → Type 0
LeavesHand (above.Take n looking) a before h = LeavesTake n before h × IsCounted a
LeavesHand (above.UnlockInode n) a before h = Unlocked n before h
LeavesHand (above.UpStart absolute) a before h = Referred a before h
LeavesHand (above.Up n) a before h = LeavesUp n a before h
LeavesHand (above.WalkDown n) a before h = LeavesWalkDown n a before h
LeavesHand (above.Down n) a before h = LeavesDown n a before h
LeavesHand (above.Free n) a before h = Reloaded n before h
LeavesHand (above.Forget n) a before h = Dropped n before h
LeavesHand (above.Claim s) a before h = LeavesClaim a before h
LeavesHand (above.Store n count) a before h = Changed n before h
LeavesHand (above.Fill n d) a before h = Changed n before h
LeavesHand (above.Enter d e n) a before h = Changed d before h
LeavesHand (above.Clear d e) a before h = Changed d before h
LeavesHand (above.Empty n) a before h = Changed n before h
LeavesHand above.Slot a before h = h ≡ before
LeavesHand (above.Install f s) a before h = LeavesInstall f.number a before h
LeavesHand (above.StatFile fd) a before h = LeavesStat a before h
LeavesHand (above.LockFile fd) a before h = LeavesLockFile a before h
LeavesHand (above.ReadFile fd n offset count) a before h = Unlocked n before h
LeavesHand (above.CheckFile fd) a before h = h ≡ before
LeavesHand (above.JoinFile fd) a before h = LeavesJoinFile a before h
LeavesHand (above.LockOpen fd n) a before h = Opened a.0 before h
LeavesHand (above.WriteFile fd n offset bytes) a before h = Unlocked n before h
LeavesHand (above.Double fd) a before h = h ≡ before
LeavesHand (above.Shut fd) a before h = LeavesShut a before h
LeavesHand (above.Lend child from) a before h = LeavesLend a before h
LeavesHand (above.LendDirectory child) a before h = Referred (Some a) before h
LeavesHand (above.Release child) a before h = h ≡ before
LeavesHand (above.SetDirectory n) a before h = LeavesSettle n a before h
LeavesHand above.Join a before h = Joined before h
LeavesHand above.Leave a before h = h ≡ with_txn None before
LeavesHand above.Say a before h = h ≡ before

-- ---- what is learned of it

-- what was learned of the inode at the other seat stays
abbrev pub Stand : InodePlace → Having → Having → Type 0
Stand k before after = note_at (other k) after.notes ≡ note_at (other k) before.notes

abbrev pub StandBeside : ℕ → Having → Having → Type 0
StandBeside n before after = Stand (seat_of_lock n before.hand) before after

abbrev pub Learns : Version → List ℕ → Query → Sight → Note → Type 0
Learns v path AtNothing a m = Unit {0}
Learns v path (AtName e) a m = IsSome a.found → HasFound v path e m
Learns v path AtEntries a m = Unit {0}

-- of an inode by the seat at which its lock is then
abbrev pub LearnsBy : Version → List ℕ → ℕ → Query → Sight → Having → Having → Type 0
LearnsBy v path n looking a before after = Stand (seat_of_lock n after.hand) before after
    × Learns v path looking a (note_at (seat_of_lock n after.hand) after.notes)

-- by which descriptor it was locked, and that file's offset
abbrev pub LearnsFile : (fd n offset : ℕ) → Having → Type 0
LearnsFile fd n offset after = note_at (seat_of_lock n after.hand) after.notes ≡ note.Opened fd offset

abbrev pub LearnsLocked : ℕ → above.LockResult → Having → Type 0
LearnsLocked fd (above.LocksIt n offset) after = LearnsFile fd n offset after
LearnsLocked fd (above.NotLocked why) after = Unit {0}

-- a descriptor's inode is locked with no other
abbrev pub LeavesNotes : Version → List ℕ → (op : above.Op) → above.Answer op → Having → Having → Type 0
LeavesNotes v path (above.Take n looking) a before after = LearnsBy v path n looking a before after
LeavesNotes v path (above.Down n) a before after = Stand (seat_of_reference n before.hand) before after
LeavesNotes v path (above.Free n) a before after = StandBeside n before after
LeavesNotes v path (above.Store n count) a before after = StandBeside n before after
LeavesNotes v path (above.Fill n d) a before after = StandBeside n before after
LeavesNotes v path (above.Enter d e n) a before after = StandBeside d before after
LeavesNotes v path (above.Clear d e) a before after = StandBeside d before after
LeavesNotes v path (above.Empty n) a before after = StandBeside n before after
LeavesNotes v path (above.StatFile fd) a before after = Unit {0}
LeavesNotes v path (above.LockFile fd) a before after = LearnsLocked fd a after
LeavesNotes v path (above.LockOpen fd n) a before after = LearnsFile fd a.0 a.1 after
LeavesNotes v path op a before after = after.notes ≡ before.notes

abbrev pub Leaves : Version → List ℕ → (op : above.Op) → above.Answer op → Having → Having → Type 0
Leaves v path op a before after = LeavesHand op a before.hand after.hand × LeavesNotes v path op a before after

-- ---- a program with this in hand

-- Each of its operations finds in hand what it asks, whatever those before it answered; and at its end nothing is in
-- hand.
unfoldable pub Runs : Version → List ℕ → (above.Op → Having → Type 0) → programs.P Reply → Having → Type 0
Runs v path Begins (Ret r) s = IsEmpty s.hand
Runs v path Begins (Do op m k) s = Begins op s × ((a : above.Answer op) (t : Having) → Leaves v path op a s t → Runs v path Begins (k a) t)

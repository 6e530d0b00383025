-- What operations on whole inodes ask of the hand, and calls that find it there.
use Rattle.std.specs.Prelude.{◌≡◌, ◌<◌, ◌^◌, ◌⊎◌, ℕ, List, None, IsSome}
use Rattle.inode_parts.specs.Vocabulary.{IsName, Call, Version, Hand, inode_at, IsEmpty, HasNoBuffer, IsLoadedAt, AtNothing, program, IsCall}
use Rattle.inode_machine.specs.World as above
use Rattle.inode_parts.specs.Basics.{note_at, Begins, HasFreeSeat, HasLock, HasReference, IsAlone, other, seat_of_lock, seat_of_reference}
use Rattle.inode_parts.specs.Clears.{HasFound}
use Rattle.inode_parts.specs.Relocks.{MayRelock}
use Rattle.inode_parts.specs.declared.note.Note.TheVariants as note
use Rattle.inode_parts.specs.Holding.{Having, Runs}

-- the inode's lock is in hand, with its record, and there is a transaction
abbrev pub HasChangeable : ℕ → Hand → Type 0
HasChangeable n h = HasLock n h × IsLoadedAt (seat_of_lock n h) h × IsSome h.txn × HasNoBuffer h

-- there is a place for the lock of inode n at the seat of the reference to it
abbrev pub MayLock : ℕ → Hand → Type 0
MayLock n h = HasReference n h × (inode_at (seat_of_reference n h) h ≡ None) × IsAlone n (seat_of_reference n h) h × HasNoBuffer h

-- no lock is in hand
abbrev pub MayOpen : Hand → Type 0
MayOpen h = (h.one ≡ None) × (h.two ≡ None) × HasNoBuffer h

-- the lock of the inode that this descriptor names is in hand, and no other, and its file has this offset
abbrev pub HasOpened : (fd n offset : ℕ) → Having → Type 0
HasOpened fd n offset s = HasLock n s.hand × IsLoadedAt (seat_of_lock n s.hand) s.hand × HasNoBuffer s.hand
    × (note_at (seat_of_lock n s.hand) s.notes ≡ note.Opened fd offset) × (inode_at (other (seat_of_lock n s.hand)) s.hand ≡ None)

abbrev pub BeginsWith : Version → List ℕ → above.Op → Having → Type 0
BeginsWith v path (above.Take n looking) s = MayLock n s.hand ⊎ (MayRelock n s.hand × (looking ≡ AtNothing))
BeginsWith v path (above.Free n) s = HasChangeable n s.hand
BeginsWith v path (above.Store n count) s = HasChangeable n s.hand × (count < 2 ^ 15)
BeginsWith v path (above.Claim inode_type) s = HasFreeSeat s.hand × HasNoBuffer s.hand × IsSome s.hand.txn
BeginsWith v path (above.Fill n d) s = HasChangeable n s.hand
BeginsWith v path (above.Enter d e n) s = HasChangeable d s.hand × IsName v e
BeginsWith v path (above.Clear d e) s = HasChangeable d s.hand × HasFound v path e (note_at (seat_of_lock d s.hand) s.notes)
BeginsWith v path (above.Empty n) s = HasChangeable n s.hand
BeginsWith v path (above.StatFile fd) s = MayOpen s.hand
BeginsWith v path (above.LockFile fd) s = MayOpen s.hand
BeginsWith v path (above.LockOpen fd n) s = MayOpen s.hand
BeginsWith v path (above.ReadFile fd n offset count) s = HasOpened fd n offset s
BeginsWith v path (above.WriteFile fd n offset bytes) s = HasOpened fd n offset s × IsSome s.hand.txn
BeginsWith v path op s = Begins op s.hand

-- with nothing in hand a call that may start runs to its end
abbrev pub RunsAlone : Version → List ℕ → Call → Type 0
RunsAlone v path call = IsCall v call → (s : Having) → IsEmpty s.hand → Runs v path (BeginsWith v path) (program v call) s

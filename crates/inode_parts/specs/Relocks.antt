-- The first listed inode locked, as a part.
use Rattle.std.specs.Prelude.{◌≡◌, ◌≢◌, ◌<◌, ◌^◌, ℕ, List, [], ◌∷◌, None}
use Rattle.inode_parts.specs.Vocabulary.{Super, bind, inode_block, Hand, Op, first_listed, inode_at, number_at, reference_at, with_first, HasNoBuffer, lock_left, lock_loaded, lock_asked, lock_seat, LockReady}
use Rattle.fs_machine.specs.declared.op.Op.TheVariants as ops
use Rattle.inode_parts.specs.Basics.{Comes, HasReference, IsAlone, free_seat, Part, beside_in}
use Rattle.inode_parts.specs.Takes.{only_seen}
use Rattle.inode_parts.specs.declared.note.Notes.{Notes}
use Rattle.inode_parts.specs.declared.relock_part.RelockPart.{RelockPart}
use Rattle.inode_parts.specs.declared.relock_part.RelockPart.TheVariants as relock

abbrev pub relock_left : List ℕ → Notes → RelockPart → Hand → Part
relock_left path m (relock.Locking k inodestart) h =
    bind (lock_loaded inodestart (first_listed h)) (only_seen path (beside_in path m k h) (first_listed h))
relock_left path m (relock.Loading r) h =
    bind (lock_left r h) (only_seen path (beside_in path m (lock_seat r) h) (number_at (lock_seat r) h))

abbrev pub relock_asked : RelockPart → Op
relock_asked (relock.Locking k inodestart) = ops.LockListed k
relock_asked (relock.Loading r) = lock_asked r

abbrev pub RelockReady : RelockPart → Hand → Type 0
RelockReady (relock.Locking k inodestart) h =
    (h.listed ≢ []) × (reference_at k h ≡ None) × (inode_at k h ≡ None) × IsAlone (first_listed h) k h × HasNoBuffer h
    × (inode_block inodestart (first_listed h) < 2 ^ 32)
RelockReady (relock.Loading r) h = LockReady r h × IsAlone (number_at (lock_seat r) h) (lock_seat r) h

-- no reference to the inode is at a seat but it is the first listed one, and there is a place for both
abbrev pub MayRelock : ℕ → Hand → Type 0
MayRelock n h = (HasReference n h → ⊥) × ((rest : List ℕ) × (h.listed ≡ n ∷ rest)) × (reference_at (free_seat h) h ≡ None)
    × (inode_at (free_seat h) h ≡ None)
    × IsAlone n (free_seat h) h × HasNoBuffer h

-- it goes to the free seat of the hand at the start: the hand is that still, or the lock is there with the reference
abbrev pub RelockAmid : ℕ → Hand → RelockPart → Hand → Type 0
RelockAmid n start (relock.Locking k inodestart) now = MayRelock n start × (k ≡ free_seat start) × (now ≡ start)
RelockAmid n start (relock.Loading r) now =
    MayRelock n start × (lock_seat r ≡ free_seat start) × Comes (lock_seat r) (with_first (free_seat start) start) now

-- what it asks of the hand
abbrev pub RelockBegins : Super → ℕ → Hand → Type 0
RelockBegins sizes n h = MayRelock n h × (inode_block sizes.inodestart n < 2 ^ 32)

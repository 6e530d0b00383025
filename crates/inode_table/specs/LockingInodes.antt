-- An inode locked, and loaded.
use Rattle.std.specs.Prelude.{◌≡◌, ◌<◌, ◌^◌, ℕ, Option, Some, None, IsSome}
use Rattle.inode_table.specs.Vocabulary.{Loaded, Ret, Do, unmarked, P, Hand, InodePlace, Op, inode_at, number_at, reference_at}
use Rattle.fs_machine.specs.Steps as steps
use Rattle.inode_table.specs.Programs.{inode_block, load_unless}
use Rattle.fs_machine.specs.declared.op.Op.TheVariants as ops
use Rattle.inode_table.specs.HeldInodes.{number_in, loaded_in, IsLoadedAt}
use Rattle.inode_table.specs.Loading.{load_left, load_asked}
use Rattle.inode_table.specs.LoadingHeld.{IsLoading}
use Rattle.inode_table.specs.declared.locking_inodes.LockInode.{LockInode}
use Rattle.inode_table.specs.declared.locking_inodes.LockInode.TheVariants.{Lock, Loading}

-- the lock of inode n is taken, and the inode is loaded if it isn't loaded
abbrev pub lock_loaded : (inodestart n : ℕ) → P Loaded
lock_loaded inodestart n = Do (steps.Lock n) unmarked (load_unless inodestart n)

abbrev pub lock_left : LockInode → Hand → P Loaded
lock_left (Lock k inodestart) h = lock_loaded inodestart (number_at k h)
lock_left (Loading k m) h = load_left m h

-- if the lock came already
abbrev pub held_left : Option LockInode → InodePlace → Hand → P Loaded
held_left None k h = Ret (loaded_in k h)
held_left (Some m) k h = lock_left m h

abbrev pub lock_asked : LockInode → Op
lock_asked (Lock k inodestart) = ops.Lock k
lock_asked (Loading k m) = load_asked m

abbrev pub lock_seat : LockInode → InodePlace
lock_seat (Lock k inodestart) = k
lock_seat (Loading k m) = k

abbrev pub LockReady : LockInode → Hand → Type 0
LockReady (Lock k inodestart) h =
    IsSome (reference_at k h) × (inode_at k h ≡ None) × (h.first ≡ None) × (inode_block inodestart (number_at k h) < 2 ^ 32)
LockReady (Loading k m) h = IsLoading k m h × (number_in k h ≡ number_at k h)

-- the inode is that of the reference, and loaded
abbrev pub HasLocked : InodePlace → Hand → Type 0
HasLocked k h = IsLoadedAt k h × (number_in k h ≡ number_at k h) × (h.first ≡ None)

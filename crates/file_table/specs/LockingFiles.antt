-- A descriptor's inode locked, and loaded.
use Rattle.std.specs.Prelude.{◌≡◌, ◌-◌, ◌<◌, ◌^◌, ℕ, Option, Some, None}
use Rattle.file_table.specs.Vocabulary.{Loaded, Ret, Do, bind, unmarked, LockedState, Refuses, Locks, OpenFile, Want, P, inode_block, load_unless, HandState as Hand, InodePlace, Op, inode_at, loaded_in, number_in, IsLoadedAt, load_left, load_asked, IsLoading}
use Rattle.fs_machine.specs.Steps as steps
use Rattle.fs_machine.specs.declared.op.Op.TheVariants as ops
use Rattle.file_table.specs.declared.lock_file.HeldFile.{HeldFile}
use Rattle.file_table.specs.declared.lock_file.FileLocked.{FileLocked}
use Rattle.file_table.specs.declared.lock_file.FileLocked.TheVariants as result
use Rattle.file_table.specs.declared.lock_file.LockFile.{LockFile}
use Rattle.file_table.specs.declared.lock_file.LockFile.TheVariants as file
use Rattle.file_table.specs.declared.lock_open.LockOpen.{LockOpen}
use Rattle.file_table.specs.declared.lock_open.LockOpen.TheVariants as opened

-- each inode's block has a number that is a u32
abbrev pub HasInodeBlocks : ℕ → Type 0
HasInodeBlocks inodestart = inode_block inodestart (2 ^ 16 - 1) < 2 ^ 32

-- the lock of the file's inode is in hand, and the inode is loaded; its number is a u16
abbrev pub HasFile : HeldFile → Hand → Type 0
HasFile f h = IsLoadedAt f.seat h × (number_in f.seat h ≡ f.file.number) × (h.first ≡ None) × (f.file.number < 2 ^ 16)

abbrev pub IsLoadingFile : HeldFile → Hand → Type 0
IsLoadingFile f h = (number_in f.seat h ≡ f.file.number) × (f.file.number < 2 ^ 16)

-- ---- if it may be had

abbrev pub locks : OpenFile → Loaded → P LockedState
locks f l = Ret (Locks f (Some l))

abbrev pub load_locked : ℕ → LockedState → P LockedState
load_locked inodestart (Refuses why) = Ret (Refuses why)
load_locked inodestart (Locks f content) = bind (load_unless inodestart f.number content) (locks f)

-- takes the lock of the inode that a descriptor names, if this use may have it, and loads the inode if it isn't
-- loaded
abbrev pub lock_file_loaded : (inodestart : ℕ) → Want → (fd : ℕ) → P LockedState
lock_file_loaded inodestart w fd = Do (steps.LockFile w fd) unmarked (load_locked inodestart)

abbrev pub file_left : LockFile → Hand → P LockedState
file_left (file.Lock k inodestart w fd) h = lock_file_loaded inodestart w fd
file_left (file.Loading f m) h = bind (load_left m h) (locks f.file)

abbrev pub file_value : FileLocked → Hand → LockedState
file_value (result.Refused why) h = Refuses why
file_value (result.Locked f) h = Locks f.file (Some (loaded_in f.seat h))

abbrev pub file_asked : LockFile → Op
file_asked (file.Lock k inodestart w fd) = ops.LockFile k w fd
file_asked (file.Loading f m) = load_asked m

abbrev pub file_seat : LockFile → InodePlace
file_seat (file.Lock k inodestart w fd) = k
file_seat (file.Loading f m) = f.seat

abbrev pub FileReady : LockFile → Hand → Type 0
FileReady (file.Lock k inodestart w fd) h = (inode_at k h ≡ None) × (h.first ≡ None) × HasInodeBlocks inodestart
FileReady (file.Loading f m) h = IsLoading f.seat m h × IsLoadingFile f h

abbrev pub FileEnds : LockFile → FileLocked → Hand → Type 0
FileEnds m (result.Refused why) h = (inode_at (file_seat m) h ≡ None) × (h.first ≡ None)
FileEnds m (result.Locked f) h = (f.seat ≡ file_seat m) × HasFile f h

-- ---- if it is known to be open

abbrev pub opens : OpenFile → Loaded → P (OpenFile × Loaded)
opens f l = Ret (f, l)

abbrev pub load_open : ℕ → OpenFile × Option Loaded → P (OpenFile × Loaded)
load_open inodestart locked = bind (load_unless inodestart locked.0.number locked.1) (opens locked.0)

abbrev pub lock_open_loaded : (inodestart fd : ℕ) → P (OpenFile × Loaded)
lock_open_loaded inodestart fd = Do (steps.LockOpen fd) unmarked (load_open inodestart)

abbrev pub open_left : LockOpen → Hand → P (OpenFile × Loaded)
open_left (opened.Lock k inodestart fd) h = lock_open_loaded inodestart fd
open_left (opened.Loading f m) h = bind (load_left m h) (opens f.file)

abbrev pub open_value : HeldFile → Hand → OpenFile × Loaded
open_value f h = (f.file, loaded_in f.seat h)

abbrev pub open_asked : LockOpen → Op
open_asked (opened.Lock k inodestart fd) = ops.LockOpen k fd
open_asked (opened.Loading f m) = load_asked m

abbrev pub open_seat : LockOpen → InodePlace
open_seat (opened.Lock k inodestart fd) = k
open_seat (opened.Loading f m) = f.seat

abbrev pub OpenReady : LockOpen → Hand → Type 0
OpenReady (opened.Lock k inodestart fd) h = (inode_at k h ≡ None) × (h.first ≡ None) × HasInodeBlocks inodestart
OpenReady (opened.Loading f m) h = IsLoading f.seat m h × IsLoadingFile f h

-- What a step makes of the inodes in memory.
use Rattle.std.specs.Prelude.{ℕ, ◌==◌, if◌then◌else◌, nat_lt, ℤ, pos, negsuc, List, Bool, true, false, Option, Some, None, is_none, find, position, slice_get, slice_set}
use Rattle.fs_machine.specs.Vocabulary.{SlotState, GuardState, filled, taken, lock_of, ExecResult, Waits, Ran, Stops}
use Rattle.fs_machine.specs.InMemory.{Inode, Loaded}
use Rattle.fs_machine.specs.declared.entries.Entry.{Entry}
use Rattle.fs_machine.specs.declared.files.OpenFile.{OpenFile}
use Rattle.fs_machine.specs.declared.files.Want.{Want}
use Rattle.fs_machine.specs.declared.files.Want.TheVariants as want
use Rattle.fs_machine.specs.declared.files.Refused.{Refused}
use Rattle.fs_machine.specs.declared.files.Refused.TheVariants.{BadDescriptor, BadMode, NoDriver}
use Rattle.fs_machine.specs.declared.files.FilePlace.{FilePlace}
use Rattle.fs_machine.specs.declared.files.FilePlace.TheVariants.{Open}
use Rattle.fs_machine.specs.Lists.{change_at}
use Rattle.fs_machine.specs.declared.desk.Desk.{Desk}
use Rattle.fs_machine.specs.Tables.{TablesState, is_unused, place_of, one_more, one_less, file_named, place_named, with_desk}

-- ---- locks

abbrev pub got_by : TablesState → List (SlotState Inode) × Option (GuardState Inode) → ExecResult (Option Loaded) TablesState
got_by t (locks, None) = Waits
got_by t (locks, Some guard) = Ran guard.value.content (record t { locks = locks })

abbrev pub lock_at : ℕ → TablesState → Option ℕ → ExecResult (Option Loaded) TablesState
lock_at h t None = Waits
lock_at h t (Some k) = got_by t (lock_of t.locks k h)

-- the lock of a referenced inode is taken, and what is loaded of it answered; the hart waits if that is out
unfoldable pub lock_inode : ℕ → ℕ → TablesState → ExecResult (Option Loaded) TablesState
lock_inode h n t = lock_at h t (place_of n t.entries)

-- what is answered of a descriptor's file
pub data LockedState : Type 0 where
  Refuses : Refused → LockedState
  Locks : OpenFile → Option Loaded → LockedState

abbrev pub is_number : ℕ → ℤ → Bool
is_number n (pos m) = m == n
is_number n (negsuc m) = false

abbrev pub is_device : OpenFile → Bool
is_device f = is_number 3 f.kind

abbrev pub mode_refuses : Bool → OpenFile → Option Refused
mode_refuses true f = if is_device f then Some NoDriver else None
mode_refuses false f = Some BadMode

-- why a file isn't to be had for this
abbrev pub refusal_of : Want → Option OpenFile → Option Refused
refusal_of w None = Some BadDescriptor
refusal_of want.Stat (Some f) = None
refusal_of want.Read (Some f) = mode_refuses f.readable f
refusal_of want.Write (Some f) = mode_refuses f.writable f

abbrev pub with_file : OpenFile → ExecResult (Option Loaded) TablesState → ExecResult LockedState TablesState
with_file f Waits = Waits
with_file f (Ran content t) = Ran (Locks f content) t
with_file f (Stops t) = Stops t

abbrev pub lock_unless : ℕ → TablesState → Option OpenFile → Option Refused → ExecResult LockedState TablesState
lock_unless h t f (Some why) = Ran (Refuses why) t
lock_unless h t None None = Waits
lock_unless h t (Some f) None = with_file f (lock_inode h f.number t)

-- the lock of the inode that a descriptor names
unfoldable pub lock_file : ℕ → Want → ℕ → TablesState → ExecResult LockedState TablesState
lock_file h w fd t = lock_unless h t (file_named h fd t) (refusal_of w (file_named h fd t))

abbrev pub unlock_at : Inode → TablesState → Option ℕ → TablesState
unlock_at v t None = t
unlock_at v t (Some k) = record t { locks = slice_set t.locks k (filled k v) }

abbrev pub moved_at : ℕ → List FilePlace → Option OpenFile → Option ℕ → List FilePlace
moved_at offset files None k = files
moved_at offset files (Some f) None = files
moved_at offset files (Some f) (Some k) = slice_set files k (Open (record f { offset = offset }))

-- the offset of the file that a descriptor names
abbrev pub with_offset : ℕ → Option (ℕ × ℕ) → TablesState → TablesState
with_offset h None t = t
with_offset h (Some (fd, offset)) t = record t { files = moved_at offset t.files (file_named h fd t) (place_named h fd t) }

abbrev pub unlocked_in : Inode → TablesState → TablesState
unlocked_in v t = unlock_at v t (place_of v.number t.entries)

-- the lock is given back with this inode; and an offset moves in the same step
unfoldable pub unlock_inode : ℕ → Inode → Option (ℕ × ℕ) → TablesState → TablesState
unlock_inode h v moved t = unlocked_in v (with_offset h moved t)

-- ---- references

-- one reference more to the inode that has place k
abbrev pub counted_at : ℕ → TablesState → TablesState
counted_at k t = record t { entries = change_at k one_more t.entries }

-- a free place becomes an inode's, with one reference; nothing of it is loaded yet
abbrev pub begun_at : ℕ → ℕ → TablesState → TablesState
begun_at n k t =
    record t {
      entries = slice_set t.entries k (record { number = n; references = 1 });
      locks = slice_set t.locks k (filled k (record { number = n; content = None }));
    }

abbrev pub up_new : ℕ → TablesState → Option ℕ → ExecResult (Option ℕ) TablesState
up_new n t None = Ran None t
up_new n t (Some k) = Ran (Some n) (begun_at n k t)

abbrev pub up_by : ℕ → TablesState → Option ℕ → ExecResult (Option ℕ) TablesState
up_by n t None = up_new n t (position is_unused t.entries)
up_by n t (Some k) = Ran (Some n) (counted_at k t)

-- one reference more to an inode; None if each of the fifty places is referred to
unfoldable pub up_inode : ℕ → TablesState → ExecResult (Option ℕ) TablesState
up_inode n t = up_by n t (place_of n t.entries)

abbrev pub directory_of : Option Desk → ℕ
directory_of None = 0
directory_of (Some d) = d.directory

-- the same, to the hart's current directory
unfoldable pub up_directory : ℕ → TablesState → ExecResult (Option ℕ) TablesState
up_directory h t = up_inode (directory_of (slice_get t.desks h)) t

-- above zero
abbrev pub is_positive : ℤ → Bool
is_positive (pos n) = nat_lt 0 n
is_positive (negsuc n) = false

-- an inode that is loaded, and has no link
abbrev pub dead_of : Option Loaded → Option Loaded
dead_of None = None
dead_of (Some l) = if is_positive l.inode.nlink then None else Some l

abbrev pub dead_in : Option Inode → Option Loaded
dead_in None = None
dead_in (Some v) = dead_of v.content

-- what dies when a reference is dropped: it is the last one
abbrev pub dying : Option Entry → Option (SlotState Inode) → Option Loaded
dying None s = None
dying (Some e) None = None
dying (Some e) (Some s) = if e.references == 1 then dead_in s.inside else None

-- the result of a drop: the reference was counted down; or it is the last one to a dead inode, which is kept to be
-- freed later, or locked
pub data DroppedState : Type 0 where
  Counts : DroppedState
  Keeps : DroppedState
  Dies : ℕ → Option Loaded → DroppedState

abbrev pub uncounted_at : ℕ → TablesState → TablesState
uncounted_at k t = record t { entries = change_at k one_less t.entries }

abbrev pub drop_dying : ℕ → ℕ → ℕ → TablesState → Option Loaded → ExecResult DroppedState TablesState
drop_dying h n k t None = Ran Counts (uncounted_at k t)
drop_dying h n k t (Some d) = Ran (Dies n (Some d)) (record t { locks = change_at k (λ s. taken s h) t.locks })

abbrev pub drop_at : ℕ → ℕ → TablesState → Option ℕ → ExecResult DroppedState TablesState
drop_at h n t None = Ran Counts t
drop_at h n t (Some k) = drop_dying h n k t (dying (slice_get t.entries k) (slice_get t.locks k))

-- a reference is dropped; where it is the last one to a dead inode the lock is taken in its place
unfoldable pub drop_inode : ℕ → ℕ → TablesState → ExecResult DroppedState TablesState
drop_inode h n t = drop_at h n t (place_of n t.entries)

abbrev pub walked_dying : ℕ → TablesState → Option Loaded → ExecResult DroppedState TablesState
walked_dying k t None = Ran Counts (uncounted_at k t)
walked_dying k t (Some d) = Ran Keeps t

abbrev pub walked_at : TablesState → Option ℕ → ExecResult DroppedState TablesState
walked_at t None = Ran Counts t
walked_at t (Some k) = walked_dying k t (dying (slice_get t.entries k) (slice_get t.locks k))

-- the same within a walk: where it is the last one to a dead inode it stays in the hart's hand, who frees the inode later
unfoldable pub drop_walked : ℕ → TablesState → ExecResult DroppedState TablesState
drop_walked n t = walked_at t (place_of n t.entries)

abbrev pub freed_at : TablesState → Option ℕ → ExecResult DroppedState TablesState
freed_at t None = Ran Counts t
freed_at t (Some k) = Ran Counts (uncounted_at k t)

-- the reference that is left to an inode that was freed: it is counted down
unfoldable pub drop_freed : ℕ → TablesState → ExecResult DroppedState TablesState
drop_freed n t = freed_at t (place_of n t.entries)

abbrev pub with_directory : ℕ → Desk → Desk
with_directory n d = record d { directory = n }

abbrev pub settled : ℕ → ℕ → TablesState → ExecResult ℕ TablesState
settled h n t = Ran (directory_of (slice_get t.desks h)) (with_desk h (with_directory n) t)

-- the lock is given back with this inode, which becomes the hart's current directory; the old one is answered
unfoldable pub settle_inode : ℕ → Inode → TablesState → ExecResult ℕ TablesState
settle_inode h v t = settled h v.number (unlock_inode h v None t)

-- ---- inodes to be claimed

abbrev pub is_unreferenced : List Entry → ℕ → Bool
is_unreferenced entries n = is_none (place_of n entries)

-- the first of these to which there is no reference
abbrev pub first_free : List Entry → List ℕ → Option ℕ
first_free entries candidates = find (is_unreferenced entries) candidates

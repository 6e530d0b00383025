-- Each step of the tables is an operation on whole inodes. load: of each inode whose lock isn't out, what is loaded.
use Rattle.std.specs.Prelude.{◌≡◌, ◌≢◌, ℕ, ◌+◌, ◌<◌, ◌≤◌, Option, Some, None, Bool, false, is_some, if◌then◌else◌, ◌==◌}
use Rattle.inodes_on_blocks.specs.Vocabulary.{option_map, Version, Loaded, Tree, put, Inode, fresh, TablesState, file_named, hart_count, descriptor_count, root, lock_inode, unlock_inode, up_inode, up_directory, dead_of, DroppedState, Counts, Keeps, Dies, drop_inode, drop_walked, settle_inode, refusal_of, LockedState, Refuses, Locks, lock_file, take_place, open_file, double_descriptor, shut_descriptor, give_next, Cause, OpenFile, InodeType, Query, Entry, World, LockResult, NotLocked, LocksIt, Room, Take, Up, UpStart, WalkDown, Down, Slot, Install, Double, Shut, SetDirectory, StatFile, LockFile, Lend, LendDirectory, Release, exec, start_number, is_dead, slot_at, entry_of, read_refused, write_refused, with_offset, released, Inv, Asks, at_rest}
use Rattle.fs_machine.specs.declared.slots.Given.TheVariants as given
use Rattle.fs_machine.specs.declared.files.Refused.TheVariants as refused
use Rattle.fs_machine.specs.declared.files.Want.TheVariants as want
use Rattle.inode_machine.specs.Inodes.{seen_in}
use Rattle.inodes_on_blocks.specs.Basics.{loaded, BothCame, Runs, file_of, new_file, doubled_as, shut_as, given_as, refused_as}
use Rattle.inodes_on_blocks.specs.ShownTables.{Shows}

-- the lock of an inode that has a reference is tried; it answers what is loaded
abbrev pub LocksAreTaken : Type 0
LocksAreTaken =
    (version : Version) (h n : ℕ) (looking : Query) (t : TablesState) (w : World) (load : ℕ → Option Loaded) → Shows t w load → 0 < w.refs n
    → BothCame (λ content seen. (content ≡ load n) × (seen ≡ seen_in version n looking (w.disk n))) (λ content. put load n None)
    (lock_inode h n t) (exec version h Room (Take n looking) w)

-- it is given back with this inode
abbrev pub LocksAreGiven : Type 0
LocksAreGiven =
    (h : ℕ) (v : Inode) (t : TablesState) (w : World) (load : ℕ → Option Loaded) → Shows t w load → w.lock v.number ≡ Some h
    → Shows (unlock_inode h v None t) (record w { lock = put w.lock v.number None }) (put load v.number v.content)

-- One reference more to an inode, if there is a place for it; to a path's start.
abbrev pub TablesCountReferences : Type 0
TablesCountReferences =
    (version : Version) (h n : ℕ) (t : TablesState) (w : World) (load : ℕ → Option Loaded) → Shows t w load → 1 ≤ n → n < w.all.ninodes
    → BothCame (λ a there. a ≡ (if there then Some n else None)) (λ a. load) (up_inode n t) (exec version h Room (Up n) w)

abbrev pub StartsAreCounted : Type 0
StartsAreCounted =
    (version : Version) (h : ℕ) (absolute : Bool) (t : TablesState) (w : World) (load : ℕ → Option Loaded) → Shows t w load
    → 1 ≤ start_number (w.desks h) absolute → start_number (w.desks h) absolute < w.all.ninodes
    → BothCame (λ a b. a ≡ b) (λ a. load) (up_inode (start_number (w.desks h) absolute) t) (exec version h Room (UpStart absolute) w)

-- the hart's directory is the desk's
abbrev pub DirectoriesAreStarts : Type 0
DirectoriesAreStarts =
    (h : ℕ) (t : TablesState) (w : World) (load : ℕ → Option Loaded) → Shows t w load → h < hart_count
    → up_directory h t ≡ up_inode (start_number (w.desks h) false) t

-- One reference less. If it is the last one nobody has the lock, and what is loaded says whether the inode has links.
pub record MayDie (n : ℕ) (w : World) (load : ℕ → Option Loaded) : Type 0 where
  pub some : 0 < w.refs n
  pub free : w.refs n ≡ 1 → w.lock n ≡ None
  pub alike : w.refs n ≡ 1 → is_some (dead_of (load n)) ≡ is_dead (w.disk n)

-- what is loaded then: nothing of an inode without references, or whose lock is out
abbrev pub load_after : ℕ → ℕ → (ℕ → Option Loaded) → DroppedState → ℕ → Option Loaded
load_after n refs load Counts = if refs == 1 then put load n None else load
load_after n refs load Keeps = load
load_after n refs load (Dies m d) = put load n None

abbrev pub WalksDropReferences : Type 0
WalksDropReferences =
    (version : Version) (h n : ℕ) (t : TablesState) (w : World) (load : ℕ → Option Loaded) → Shows t w load → MayDie n w load
    → BothCame (λ a last. a ≡ (if last then Keeps else Counts)) (load_after n (w.refs n) load) (drop_walked n t)
    (exec version h Room (WalkDown n) w)

abbrev pub ReferencesAreDropped : Type 0
ReferencesAreDropped =
    (version : Version) (h n : ℕ) (t : TablesState) (w : World) (load : ℕ → Option Loaded) → Shows t w load → MayDie n w load
    → BothCame (λ a last. a ≡ (if last then Dies n (load n) else Counts)) (load_after n (w.refs n) load) (drop_inode h n t)
    (exec version h Room (Down n) w)

-- A place for an open file comes into the hart's hand.
abbrev pub PlacesAreTaken : Type 0
PlacesAreTaken =
    (version : Version) (h : ℕ) (t : TablesState) (w : World) (load : ℕ → Option Loaded) → Shows t w load
    → Runs h w → (w.desks h).hand ≡ None
    → BothCame (λ a b. a ≡ b) (λ a. load) (take_place h t) (exec version h Room Slot w)

-- A file is opened there, at its beginning, by the lowest free descriptor; if there is none the place is given back.
abbrev pub FilesAreOpened : Type 0
FilesAreOpened =
    (version : Version) (h : ℕ) (f : OpenFile) (inode_type : InodeType) (t : TablesState) (w : World) (load : ℕ → Option Loaded)
    → Shows t w load → Inv w → Runs h w → (w.desks h).hand ≢ None → f.offset ≡ 0
    → BothCame (λ a b. a ≡ b) (λ a. load) (open_file h f.number (new_file f inode_type) t) (exec version h Room (Install f inode_type) w)

-- One more descriptor names what a descriptor names.
abbrev pub DescriptorsAreDoubled : Type 0
DescriptorsAreDoubled =
    (version : Version) (h fd : ℕ) (t : TablesState) (w : World) (load : ℕ → Option Loaded) → Shows t w load → Inv w → Runs h w
    → BothCame (λ a b. a ≡ doubled_as b) (λ a. load) (double_descriptor h fd t) (exec version h Room (Double fd) w)

-- A descriptor goes, and with the last one its open file.
abbrev pub DescriptorsAreShut : Type 0
DescriptorsAreShut =
    (version : Version) (h fd : ℕ) (t : TablesState) (w : World) (load : ℕ → Option Loaded) → Shows t w load → Inv w → Runs h w
    → ((i : ℕ) → (w.desks h).lent i ≡ None)
    → BothCame (λ a b. a ≡ shut_as b) (λ a. load) (shut_descriptor h fd t) (exec version h Room (Shut fd) w)

-- A lock is given back with this inode, which is the hart's directory then.
abbrev pub DirectoriesAreSettled : Type 0
DirectoriesAreSettled =
    (version : Version) (h : ℕ) (v : Inode) (t : TablesState) (w : World) (load : ℕ → Option Loaded) → Shows t w load
    → Runs h w → w.lock v.number ≡ Some h
    → BothCame (λ a b. a ≡ b) (λ a. put load v.number v.content) (settle_inode h v t) (exec version h Room (SetDirectory v.number) w)

-- What a descriptor names, and why it isn't to be had for a thing.
abbrev pub DescriptorsNameFiles : Type 0
DescriptorsNameFiles =
    (h fd : ℕ) (t : TablesState) (w : World) (load : ℕ → Option Loaded) → Shows t w load → Inv w → Runs h w
    → (file_named h fd t ≡ option_map file_of (entry_of w h fd))
    × (refusal_of want.Read (file_named h fd t) ≡ option_map refused_as (read_refused (entry_of w h fd)))
    × (refusal_of want.Write (file_named h fd t) ≡ option_map refused_as (write_refused (entry_of w h fd)))

-- The lock of the inode that a descriptor names is tried, to answer its state.
abbrev pub FitsStat : (load : ℕ → Option Loaded) → Option Entry → LockedState → Type 0
FitsStat load None a = a ≡ Refuses refused.BadDescriptor
FitsStat load (Some e) a = a ≡ Locks (file_of e) (load e.file.number)

abbrev pub load_locked : (ℕ → Option Loaded) → LockedState → ℕ → Option Loaded
load_locked load (Refuses why) = load
load_locked load (Locks f content) = put load f.number None

abbrev pub FilesAreLocked : Type 0
FilesAreLocked =
    (version : Version) (h fd : ℕ) (t : TablesState) (w : World) (load : ℕ → Option Loaded) → Shows t w load → Inv w → Runs h w
    → BothCame (λ a b. FitsStat load (entry_of w h fd) a) (load_locked load) (lock_file h want.Stat fd t)
    (exec version h Room (StatFile fd) w)

-- The same to read of it.
abbrev pub FitsRead : (load : ℕ → Option Loaded) → Option Entry → Option Cause → LockedState → LockResult → Type 0
FitsRead load e (Some why) a b = (a ≡ Refuses (refused_as why)) × (b ≡ NotLocked why)
FitsRead load None None a b = ⊥
FitsRead load (Some e) None a b = (a ≡ Locks (file_of e) (load e.file.number)) × (b ≡ LocksIt e.file.number e.file.offset)

abbrev pub FilesAreLockedToRead : Type 0
FilesAreLockedToRead =
    (version : Version) (h fd : ℕ) (t : TablesState) (w : World) (load : ℕ → Option Loaded) → Shows t w load → Inv w → Runs h w
    → BothCame (FitsRead load (entry_of w h fd) (read_refused (entry_of w h fd))) (load_locked load) (lock_file h want.Read fd t)
    (exec version h Room (LockFile fd) w)

-- A lock is given back with this inode, and the offset of what a descriptor names moves.
abbrev pub OffsetsAreMoved : Type 0
OffsetsAreMoved =
    (h fd by : ℕ) (e : Entry) (v : Inode) (t : TablesState) (w : World) (load : ℕ → Option Loaded) → Shows t w load → Inv w → Runs h w
    → w.lock v.number ≡ Some h → entry_of w h fd ≡ Some e
    → Shows (unlock_inode h v (Some (fd, e.file.offset + by)) t)
    (with_offset (record w { lock = put w.lock v.number None }) (slot_at w h fd) e by) (put load v.number v.content)

-- A hart's next descriptor is handed on to the child that it serves, or its directory if it has none.
abbrev pub DescriptorsAreGiven : Type 0
DescriptorsAreGiven =
    (version : Version) (h child from : ℕ) (t : TablesState) (w : World) (load : ℕ → Option Loaded) → Shows t w load → Inv w → Runs h w
    → Asks version h (Lend child from) w → from ≤ descriptor_count
    → BothCame (λ a b. a ≡ given_as b) (λ a. load) (give_next h child from t) (exec version h Room (Lend child from) w)

-- The directory is, past the last descriptor.
abbrev pub DirectoriesAreGiven : Type 0
DirectoriesAreGiven =
    (version : Version) (h child : ℕ) (t : TablesState) (w : World) (load : ℕ → Option Loaded) → Shows t w load → Inv w → Runs h w
    → Asks version h (LendDirectory child) w
    → BothCame (λ a b. a ≡ given.Directory b) (λ a. load) (give_next h child descriptor_count t)
    (exec version h Room (LendDirectory child) w)

-- When the child is released the tables stay.
abbrev pub ChildrenAreReleased : Type 0
ChildrenAreReleased = (version : Version) (h child : ℕ) (t : TablesState) (w : World) (load : ℕ → Option Loaded) → Shows t w load → Inv w
    → Runs h w → Asks version h (Release child) w → Shows t (released w h child) load

-- Fresh tables show a world at rest whose harts are all in the root.
abbrev pub FreshTablesShow : Type 0
FreshTablesShow = (t : Tree) → ((h : ℕ) → h < hart_count → t.cwd h ≡ root) → root < t.ninodes → Shows fresh (at_rest t) (loaded fresh)

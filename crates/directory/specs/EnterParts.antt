-- A name entered.
use Rattle.std.specs.Prelude.{ℕ, ◌+◌, ◌*◌, ◌==◌, if◌then◌else◌, ◌^◌, ◌<◌, ◌≤◌, IsSome}
use Rattle.directory.specs.Vocabulary.{bits_per_block, dirent_len_of, bind, P, inode_block, Hand, InodePlace, Op, index_at, record_in, IsLoadedAt, write_left, write_asked, WriteReady, Version, Written}
use Rattle.directory.specs.Indexes.{on_disk}
use Rattle.directory.specs.Programs.{Unused, most_slots}
use Rattle.directory.specs.Entering.{EnteredState, enter_at, entered_by}
use Rattle.directory.specs.declared.enter.Room.TheVariants.{There, NoBlock}
use Rattle.directory.specs.Searching.{search_left, search_asked, SearchReady}
use Rattle.directory.specs.declared.enter.Enter.{Enter}
use Rattle.directory.specs.declared.enter.Enter.TheVariants.{Searching, Writing}
use Rattle.directory.specs.declared.enter.Entered.{Entered}
use Rattle.directory.specs.declared.enter.Entering.{Entering}

-- what the result means: the index is in hand
abbrev pub entered_as : Entered → Hand → EnteredState
entered_as r h = record { inode = r.inode; room = r.room; index = index_at r.seat h }

abbrev pub enter_left : Enter → Hand → P EnteredState
enter_left (Searching e m) h =
    bind (search_left e.sizes.version Unused e.seat m h) (enter_at e.sizes e.number (record_in e.seat h) (on_disk e.sizes.version e.entry))
enter_left (Writing p m) h =
    bind (write_left (on_disk p.version p.entry) m h) (entered_by p.version p.slot (on_disk p.version p.entry) (index_at p.seat h))

-- the seat of the directory's lock
abbrev pub enter_seat : Enter → InodePlace
enter_seat (Searching e m) = e.seat
enter_seat (Writing p m) = p.seat

abbrev pub enter_asked : Enter → Op
enter_asked (Searching e m) = search_asked m
enter_asked (Writing p m) = write_asked m

-- the disk's blocks have bits, and the directory's block has a number
abbrev pub IsEntering : Entering → Type 0
IsEntering e = (e.sizes.size ≤ bits_per_block) × (inode_block e.sizes.inodestart e.number < 2 ^ 32)

abbrev pub EnterReady : Enter → Hand → Type 0
EnterReady (Searching e m) h = IsEntering e × SearchReady e.sizes.version e.seat m h × IsSome h.txn
EnterReady (Writing p m) h = (p.slot < most_slots p.version) × WriteReady (on_disk p.version p.entry) m h × IsLoadedAt p.seat h

-- a slot is in one block, so all of it was written or nothing
abbrev pub entered_in : Version → InodePlace → ℕ → Written → Entered
entered_in v seat slot w = record { inode = w.inode; room = if w.upto == dirent_len_of v * (slot + 1) then There else NoBlock; seat = seat }

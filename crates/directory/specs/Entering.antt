-- A name entered: a program over what all harts share. Nothing is marked in it.
use Rattle.std.specs.Prelude.{ℕ, ◌+◌, ◌*◌, ◌==◌, nat_lt, if◌then◌else◌, Bool, true, false, List, Option, Some, None}
use Rattle.directory.specs.Vocabulary.{Dinode, IndexState, Loaded, Super, Version, Used, spell_dirent, dirent_len_of, Prog, Ret, bind, Answer, WriteResult, write_part}
use Rattle.fs_machine.specs.Steps.{Op}
use Rattle.directory.specs.Programs.{Searched, Unused, most_slots, search, slot_count}
use Rattle.directory.specs.Indexes.{with_entry}
use Rattle.directory.specs.declared.found.Found.{Found}
use Rattle.directory.specs.declared.enter.Room.{Room}
use Rattle.directory.specs.declared.enter.Room.TheVariants.{There, NoBlock, NoSlot}

-- the directory's record, whether there was room for the name, and the index of its names
pub record EnteredState : Type 0 where
  pub inode : Dinode
  pub room : Room
  pub index : IndexState

-- the slot of a new name: the free one that was found, or a new last one
abbrev pub slot_for : Version → Dinode → Option Found → ℕ
slot_for v d (Some f) = f.slot
slot_for v d None = slot_count v d

-- a slot is in one block, so all of it was written or nothing
abbrev pub entered_if : Version → ℕ → List ℕ → IndexState → Dinode → Bool → EnteredState
entered_if v slot bytes x d true = record { inode = d; room = There; index = with_entry v slot bytes x }
entered_if v slot bytes x d false = record { inode = d; room = NoBlock; index = x }

abbrev pub entered_by : {M : Type 0} → Version → ℕ → List ℕ → IndexState → WriteResult → Prog Op Answer M EnteredState
entered_by v slot bytes x w = Ret (entered_if v slot bytes x w.inode (w.upto == dirent_len_of v * (slot + 1)))

-- the bytes of an entry go into a slot, if a directory may have that slot
abbrev pub enter_in : {M : Type 0} → Super → (n : ℕ) → Dinode → List ℕ → IndexState → ℕ → Prog Op Answer M EnteredState
enter_in sizes n d bytes x slot =
    if nat_lt slot (most_slots sizes.version)
    then bind (write_part sizes n d (dirent_len_of sizes.version * slot) bytes) (entered_by sizes.version slot bytes x)
    else Ret (record { inode = d; room = NoSlot; index = x })

abbrev pub enter_at : {M : Type 0} → Super → (n : ℕ) → Dinode → List ℕ → Searched → Prog Op Answer M EnteredState
enter_at sizes n d bytes o = enter_in sizes n d bytes o.index (slot_for sizes.version d o.found)

-- these bytes of an entry, in the first free slot of directory n
abbrev pub enter_bytes : {M : Type 0} → Super → (n : ℕ) → Loaded → List ℕ → Prog Op Answer M EnteredState
enter_bytes sizes n l bytes = bind (search sizes.version Unused l) (enter_at sizes n l.inode bytes)

-- Into directory n goes inode m by this name: in the first free slot, else in a new last one. For that the directory
-- may have one more slot, and a block must be there or free.
abbrev pub enter : {M : Type 0} → Super → (n : ℕ) → Loaded → (m : ℕ) → List ℕ → Prog Op Answer M EnteredState
enter sizes n l m name = enter_bytes sizes n l (spell_dirent sizes.version (Used m name))

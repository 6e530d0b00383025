-- A name cleared, as a part.
use Rattle.std.specs.Prelude.{◌≡◌, ◌<◌, ℕ, List, true}
use Rattle.inode_parts.specs.Vocabulary.{Name, same_name, Dinode, Super, Version, bind, most_slots, cleared, Hand, InodePlace, Op, index_at, IsLoadedAt, clear_left, clear_asked, ClearReady, name_in}
use Rattle.path_walk.specs.declared.asks.Heard.TheVariants as heard
use Rattle.inode_parts.specs.Basics.{note_at, changed, IsAmid, MayChange, seat_of_lock, Part}
use Rattle.inode_parts.specs.declared.note.Note.{Note}
use Rattle.inode_parts.specs.declared.note.Note.TheVariants as note
use Rattle.inode_parts.specs.declared.note.Notes.{Notes}
use Rattle.inode_parts.specs.declared.changing_directories.ClearPart.{ClearPart}

-- the directory has this record, and this slot no more in its index
abbrev pub cleared_at : List ℕ → Notes → InodePlace → (slot : ℕ) → Hand → Dinode → Part
cleared_at path m k slot h d = changed path m k heard.WasDone h (record { inode = d; index = cleared slot (index_at k h) })

abbrev pub clear_part_left : List ℕ → Notes → ClearPart → Hand → Part
clear_part_left path m p h = bind (clear_left p.clear h) (cleared_at path m p.seat p.slot h)

abbrev pub clear_part_asked : ClearPart → Op
clear_part_asked p = clear_asked p.clear

abbrev pub ClearPartReady : ClearPart → Hand → Type 0
ClearPartReady p h = ClearReady p.clear h × IsLoadedAt p.seat h

-- in directory n
abbrev pub ClearAmid : ℕ → Hand → ClearPart → Hand → Type 0
ClearAmid n start p now = IsAmid n start p.seat now

-- the search found this name, in a slot that a directory may have
abbrev pub HasFound : Version → List ℕ → Name → Note → Type 0
HasFound v path e (note.Finds x s) = (same_name (name_in path x) e ≡ true) × (s < most_slots v)
HasFound v path e m = ⊥

-- that slot
abbrev pub slot_in : Note → ℕ
slot_in (note.Finds x s) = s
slot_in m = 0

-- what it asks
abbrev pub ClearBegins : Super → List ℕ → Notes → ℕ → Name → Hand → Type 0
ClearBegins sizes path m n e h = MayChange sizes n h × HasFound sizes.version path e (note_at (seat_of_lock n h) m)

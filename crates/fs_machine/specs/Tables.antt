-- The tables that all harts share.
use Rattle.std.specs.Prelude.{◌≡◌, ℕ, zero, suc, ◌+◌, ◌-◌, ◌≤◌, ◌==◌, ◌&&◌, nat_lt, List, length, [], ◌∷◌, Bool, false, Option, Some, None, position, count_by, slice_get}
use Rattle.fs_machine.specs.Vocabulary.{SlotState}
use Rattle.fs_machine.specs.InMemory.{Inode}
use Rattle.fs_machine.specs.declared.entries.Entry.{Entry}
use Rattle.fs_machine.specs.declared.files.OpenFile.{OpenFile}
use Rattle.fs_machine.specs.declared.files.FilePlace.{FilePlace}
use Rattle.fs_machine.specs.declared.files.FilePlace.TheVariants.{Free, Taken, Open}
use Rattle.fs_machine.specs.Limits.{inode_places}
use Rattle.fs_machine.specs.Lists.{change_at}
use Rattle.fs_machine.specs.declared.desk.Desk.{Desk}

-- fifty places for inodes in memory, each with its lock; a hundred open files; and eight harts' desks
pub record TablesState : Type 0 where
  pub entries : List Entry
  pub locks : List (SlotState Inode)
  pub files : List FilePlace
  pub desks : List Desk

-- the place is this inode's; it is free
abbrev pub is_for : ℕ → Entry → Bool
is_for n e = (e.number == n) && nat_lt 0 e.references

abbrev pub is_unused : Entry → Bool
is_unused e = e.references == 0

-- from this place on each one is free
abbrev pub AreFreeFrom : ℕ → List Entry → Type 0
AreFreeFrom n [] = Unit {0}
AreFreeFrom zero (e ∷ es) = (e.references ≡ 0) × AreFreeFrom zero es
AreFreeFrom (suc n) (e ∷ es) = AreFreeFrom n es

-- the places that are in use are below this one: from it on all are free
pub record AreUsedBelow (n : ℕ) (entries : List Entry) : Type 0 where
  pub places : length entries ≡ inode_places
  pub within : n ≤ inode_places
  pub free : AreFreeFrom n entries

abbrev pub place_of : ℕ → List Entry → Option ℕ
place_of n entries = position (is_for n) entries

abbrev pub references_at : Option Entry → ℕ
references_at None = 0
references_at (Some e) = e.references

abbrev pub references_in : List Entry → Option ℕ → ℕ
references_in entries None = 0
references_in entries (Some k) = references_at (slice_get entries k)

-- the count of references to an inode
abbrev pub references_of : ℕ → TablesState → ℕ
references_of n t = references_in t.entries (place_of n t.entries)

abbrev pub one_more : Entry → Entry
one_more e = record e { references = e.references + 1 }

abbrev pub one_less : Entry → Entry
one_less e = record e { references = e.references - 1 }

abbrev pub is_file_of : ℕ → FilePlace → Bool
is_file_of n Free = false
is_file_of n Taken = false
is_file_of n (Open f) = f.number == n

abbrev pub is_directory_of : ℕ → Desk → Bool
is_directory_of n d = d.directory == n

-- how many references to an inode the tables themselves have: open files and current directories
abbrev pub owed : ℕ → TablesState → ℕ
owed n t = count_by (is_file_of n) t.files + count_by (is_directory_of n) t.desks

-- the hart that has an inode's lock
abbrev pub holder_at : Option (SlotState Inode) → Option ℕ
holder_at None = None
holder_at (Some s) = s.holder

abbrev pub holder_in : List (SlotState Inode) → Option ℕ → Option ℕ
holder_in locks None = None
holder_in locks (Some k) = holder_at (slice_get locks k)

abbrev pub holder_of : ℕ → TablesState → Option ℕ
holder_of n t = holder_in t.locks (place_of n t.entries)

-- what a hart's descriptor names
abbrev pub if_there : Option (Option ℕ) → Option ℕ
if_there None = None
if_there (Some k) = k

abbrev pub at_descriptor : ℕ → Option Desk → Option ℕ
at_descriptor fd None = None
at_descriptor fd (Some d) = if_there (slice_get d.descriptors fd)

abbrev pub place_named : ℕ → ℕ → TablesState → Option ℕ
place_named h fd t = at_descriptor fd (slice_get t.desks h)

abbrev pub open_at : Option FilePlace → Option OpenFile
open_at None = None
open_at (Some Free) = None
open_at (Some Taken) = None
open_at (Some (Open f)) = Some f

abbrev pub file_in : List FilePlace → Option ℕ → Option OpenFile
file_in files None = None
file_in files (Some k) = open_at (slice_get files k)

abbrev pub file_named : ℕ → ℕ → TablesState → Option OpenFile
file_named h fd t = file_in t.files (place_named h fd t)

-- a hart's desk changed
abbrev pub with_desk : ℕ → (Desk → Desk) → TablesState → TablesState
with_desk h f t = record t { desks = change_at h f t.desks }

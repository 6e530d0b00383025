-- What always holds of the tables.
use Rattle.std.specs.Prelude.{◌≡◌, ℕ, ◌<◌, List, length, Option, Some, None, IsSome, slice_get}
use Rattle.fs_machine.specs.Vocabulary.{SlotState}
use Rattle.fs_machine.specs.Limits.{inode_places, file_places, desk_count}
use Rattle.fs_machine.specs.InMemory.{Inode}
use Rattle.fs_machine.specs.declared.entries.Entry.{Entry}
use Rattle.fs_machine.specs.Tables.{TablesState}

-- by what is in a slot: it is out in a hart's hand, and the place referred to; or in, and what is in it the place's inode
abbrev pub InsideFits : Entry → Option ℕ → Option Inode → Type 0
InsideFits e holder None = IsSome holder × (0 < e.references)
InsideFits e holder (Some v) = (holder ≡ None) × (0 < e.references → v.number ≡ e.number)

abbrev pub PlaceFits : ℕ → Entry → SlotState Inode → Type 0
PlaceFits k e s = (s.number ≡ k) × InsideFits e s.holder s.inside

-- each lock goes with its place
unfoldable pub AllPlaced : List Entry → List (SlotState Inode) → Type 0
AllPlaced entries locks =
    (k : ℕ) (e : Entry) (s : SlotState Inode) → slice_get entries k ≡ Some e → slice_get locks k ≡ Some s → PlaceFits k e s

-- an inode has one place at most
unfoldable pub IsOnce : List Entry → Type 0
IsOnce entries = (j k : ℕ) (e f : Entry) → slice_get entries j ≡ Some e → slice_get entries k ≡ Some f → 0 < e.references → 0 < f.references
    → e.number ≡ f.number → j ≡ k

pub record IsSoundInodes (entries : List Entry) (locks : List (SlotState Inode)) : Type 0 where
  pub places : length entries ≡ inode_places
  pub same : length locks ≡ inode_places
  pub placed : AllPlaced entries locks
  pub once : IsOnce entries

pub record IsSoundTables (t : TablesState) : Type 0 where
  pub inodes : IsSoundInodes t.entries t.locks
  pub files : length t.files ≡ file_places
  pub desks : length t.desks ≡ desk_count

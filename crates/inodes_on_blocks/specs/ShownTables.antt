-- What the tables that all harts share show of the world of whole inodes, each part over the fields that it speaks of.
use Rattle.std.specs.Prelude.{◌≡◌, ℕ, ℤ, pos, ◌<◌, ◌≤◌, List, length, Bool, true, false, Option, Some, None, slice_get}
use Rattle.inodes_on_blocks.specs.Vocabulary.{Loaded, SlotState, ExecResult, Waits, Ran, any_below, OpenFile, Cause, hart_count, descriptor_count, Inode, FilePlace, Taken, NewFile, Refused, Doubled, ShutState as Shut, Given, TablesState, place_of, references_in, holder_in, IsSoundTables, InodeType, OfDirectory, OfFile, OfDevice, Entry, Desk, World, LoanResult, Lent, Moved, file_count, is_at}
use Rattle.plain_tree.specs.declared.answer.Cause.TheVariants as causes
use Rattle.fs_machine.specs.declared.entries.Entry as places
use Rattle.fs_machine.specs.declared.files.OpenFile as tables
use Rattle.fs_machine.specs.declared.files.FilePlace.TheVariants.{Free, Open}
use Rattle.fs_machine.specs.declared.files.Refused.TheVariants as refused
use Rattle.fs_machine.specs.declared.slots.Doubled.TheVariants as doubled
use Rattle.fs_machine.specs.declared.slots.Shut.TheVariants as shut
use Rattle.fs_machine.specs.declared.slots.Given.TheVariants as given
use Rattle.fs_machine.specs.declared.desk.Desk as cards

-- ---- inodes in memory

-- what is loaded of an inode whose lock isn't out
abbrev pub loaded_of : Option Inode → Option Loaded
loaded_of None = None
loaded_of (Some v) = v.content

abbrev pub loaded_at : Option (SlotState Inode) → Option Loaded
loaded_at None = None
loaded_at (Some s) = loaded_of s.inside

abbrev pub loaded_in : List (SlotState Inode) → Option ℕ → Option Loaded
loaded_in locks None = None
loaded_in locks (Some k) = loaded_at (slice_get locks k)

abbrev pub loaded : TablesState → ℕ → Option Loaded
loaded t n = loaded_in t.locks (place_of n t.entries)

-- the counts of references, who has the locks, and what is loaded
pub record PlacesShow (entries : List places.Entry) (locks : List (SlotState Inode)) (refs : ℕ → ℕ) (lock : ℕ → Option ℕ)
    (load : ℕ → Option Loaded) : Type 0 where
  pub counts : (n : ℕ) → refs n ≡ references_in entries (place_of n entries)
  pub holders : (n : ℕ) → lock n ≡ holder_in locks (place_of n entries)
  pub loads : (n : ℕ) → load n ≡ loaded_in locks (place_of n entries)

-- ---- open files

-- the type of an inode, as its record has it
abbrev pub kind_of : InodeType → ℤ
kind_of OfDirectory = pos 1
kind_of OfFile = pos 2
kind_of (OfDevice major) = pos 3

abbrev pub file_of : Entry → tables.OpenFile
file_of e =
    record {
      number = e.file.number;
      kind = kind_of e.inode_type;
      readable = e.file.readable;
      writable = e.file.writable;
      offset = e.file.offset;
    }

-- what is recorded of a file that is opened
abbrev pub new_file : OpenFile → InodeType → NewFile
new_file f inode_type = record { kind = kind_of inode_type; readable = f.readable; writable = f.writable }

-- a hart has the place in hand, for a file that it is about to open
abbrev pub is_taken : (ℕ → Desk) → ℕ → Bool
is_taken desks k = any_below hart_count (λ g. is_at (desks g).hand k)

abbrev pub place_with : Bool → Option Entry → FilePlace
place_with taken (Some e) = Open (file_of e)
place_with true None = Taken
place_with false None = Free

abbrev pub FilesShow : List FilePlace → (ℕ → Option Entry) → (ℕ → Desk) → Type 0
FilesShow places files desks = (k : ℕ) → k < file_count → slice_get places k ≡ Some (place_with (is_taken desks k) (files k))

-- ---- desks

-- what a hart has under a descriptor, or what is on its way there from the hart that hands its own on
abbrev pub lent_by : (ℕ → Desk) → Option ℕ → ℕ → Option ℕ
lent_by desks None i = None
lent_by desks (Some g) i = (desks g).lent i

abbrev pub first : Option ℕ → Option ℕ → Option ℕ
first (Some k) o = Some k
first None o = o

abbrev pub descriptor : (ℕ → Desk) → ℕ → ℕ → Option ℕ
descriptor desks g i = first ((desks g).fds i) (lent_by desks (desks g).lender i)

pub record DeskShows (d : cards.Desk) (fds : ℕ → Option ℕ) (cwd : ℕ) (place : Option ℕ) : Type 0 where
  pub long : length d.descriptors ≡ descriptor_count
  pub descriptors : (i : ℕ) → i < descriptor_count → slice_get d.descriptors i ≡ Some (fds i)
  pub directory : d.directory ≡ cwd
  pub hand : d.hand ≡ place

abbrev pub DesksShow : List cards.Desk → (ℕ → Desk) → Type 0
DesksShow list desks = (g : ℕ) → g < hart_count
    → (d : cards.Desk) × (slice_get list g ≡ Some d) × DeskShows d (descriptor desks g) (desks g).directory (desks g).hand

-- a hart with a call: no other hart hands its descriptors to it
pub record Runs (h : ℕ) (w : World) : Type 0 where
  pub below : h < hart_count
  pub free : (w.desks h).lender ≡ None

-- ---- answers

abbrev pub doubled_as : Option (Option ℕ) → Doubled
doubled_as None = doubled.BadDescriptor
doubled_as (Some None) = doubled.Full
doubled_as (Some (Some fd)) = doubled.Gave fd

abbrev pub shut_as : Option (Option ℕ) → Shut
shut_as None = shut.BadDescriptor
shut_as (Some None) = shut.Closed
shut_as (Some (Some n)) = shut.Last n

abbrev pub given_as : LoanResult → Given
given_as (Lent fd more) = given.Descriptor fd more
given_as (Moved n) = given.Directory n

-- why a descriptor is refused; no other cause is one
abbrev pub refused_as : Cause → Refused
refused_as causes.BadDescriptor = refused.BadDescriptor
refused_as causes.BadMode = refused.BadMode
refused_as causes.NoDriver = refused.NoDriver
refused_as _ = refused.BadDescriptor

-- ---- all of them

-- load: of each inode whose lock isn't out, what is loaded
pub record Shows (t : TablesState) (w : World) (load : ℕ → Option Loaded) : Type 0 where
  pub sound : IsSoundTables t
  pub places : PlacesShow t.entries t.locks w.refs w.lock load
  pub files : FilesShow t.files w.files w.desks
  pub desks : DesksShow t.desks w.desks
  -- who hands descriptors on is a hart
  pub lenders : (g l : ℕ) → (w.desks g).lender ≡ Some l → l < hart_count
  -- what is referred to is an inode
  pub range : (n : ℕ) → 0 < w.refs n → (1 ≤ n) × (n < w.all.ninodes)

-- A step of the tables and an operation on whole inodes agree. Both wait, or both ran, with answers that go together,
-- and the tables show the world again.
abbrev pub BothCame : {A B : Type 0} → (A → B → Type 0) → (A → ℕ → Option Loaded) → ExecResult A TablesState → ExecResult B World → Type 0
BothCame Fits load Waits Waits = Unit {0}
BothCame Fits load (Ran a t) (Ran b w) = Fits a b × Shows t w (load a)
BothCame Fits load _ _ = ⊥

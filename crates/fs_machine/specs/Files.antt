-- What a step makes of descriptors and open files.
use Rattle.std.specs.Prelude.{ℕ, ◌+◌, ◌==◌, List, [], Bool, true, false, Option, Some, None, position, is_some, slice_get, slice_set}
use Rattle.fs_machine.specs.Vocabulary.{list_any, ExecResult, Ran}
use Rattle.fs_machine.specs.declared.files.OpenFile.{OpenFile}
use Rattle.fs_machine.specs.declared.files.NewFile.{NewFile}
use Rattle.fs_machine.specs.declared.files.FilePlace.{FilePlace}
use Rattle.fs_machine.specs.declared.files.FilePlace.TheVariants.{Free, Taken, Open}
use Rattle.fs_machine.specs.declared.slots.Doubled.{Doubled}
use Rattle.fs_machine.specs.declared.slots.Doubled.TheVariants as doubled
use Rattle.fs_machine.specs.declared.slots.Shut.{Shut}
use Rattle.fs_machine.specs.declared.slots.Shut.TheVariants as shut
use Rattle.fs_machine.specs.declared.slots.Given.{Given}
use Rattle.fs_machine.specs.declared.slots.Given.TheVariants as given
use Rattle.fs_machine.specs.Lists.{first_empty, next_full}
use Rattle.fs_machine.specs.declared.desk.Desk.{Desk}
use Rattle.fs_machine.specs.Tables.{TablesState, place_of, place_named, open_at, with_desk}
use Rattle.fs_machine.specs.Inodes.{directory_of, counted_at}

abbrev pub is_free : FilePlace → Bool
is_free Free = true
is_free Taken = false
is_free (Open f) = false

abbrev pub descriptors_of : Option Desk → List (Option ℕ)
descriptors_of None = []
descriptors_of (Some d) = d.descriptors

abbrev pub with_descriptor : ℕ → Option ℕ → Desk → Desk
with_descriptor fd k d = record d { descriptors = slice_set d.descriptors fd k }

abbrev pub with_hand : Option ℕ → Desk → Desk
with_hand k d = record d { hand = k }

abbrev pub hand_of : Option Desk → Option ℕ
hand_of None = None
hand_of (Some d) = d.hand

abbrev pub with_place : ℕ → FilePlace → TablesState → TablesState
with_place k p t = record t { files = slice_set t.files k p }

-- ---- a file opened: its place is taken first, then a descriptor

abbrev pub take_at : ℕ → TablesState → Option ℕ → ExecResult Bool TablesState
take_at h t None = Ran false t
take_at h t (Some k) = Ran true (with_desk h (with_hand (Some k)) (with_place k Taken t))

-- whether there is a place for one more open file
unfoldable pub take_place : ℕ → TablesState → ExecResult Bool TablesState
take_place h t = take_at h t (position is_free t.files)

abbrev pub opened : ℕ → NewFile → OpenFile
opened n f = record { number = n; kind = f.kind; readable = f.readable; writable = f.writable; offset = 0 }

abbrev pub open_by : ℕ → ℕ → NewFile → ℕ → TablesState → Option ℕ → ExecResult (Option ℕ) TablesState
open_by h n f k t None = Ran None (with_desk h (with_hand None) (with_place k Free t))
open_by h n f k t (Some fd) =
    Ran (Some fd) (with_desk h (λ d. with_hand None (with_descriptor fd (Some k) d)) (with_place k (Open (opened n f)) t))

abbrev pub open_in : ℕ → ℕ → NewFile → TablesState → Option ℕ → ExecResult (Option ℕ) TablesState
open_in h n f t None = Ran None t
open_in h n f t (Some k) = open_by h n f k t (first_empty (descriptors_of (slice_get t.desks h)))

-- the lowest free descriptor names the file that is opened at the place in hand; if there is none the place is given
-- back
unfoldable pub open_file : ℕ → ℕ → NewFile → TablesState → ExecResult (Option ℕ) TablesState
open_file h n f t = open_in h n f t (hand_of (slice_get t.desks h))

-- ---- descriptors

abbrev pub double_to : ℕ → ℕ → TablesState → Option ℕ → ExecResult Doubled TablesState
double_to h k t None = Ran doubled.Full t
double_to h k t (Some fd) = Ran (doubled.Gave fd) (with_desk h (with_descriptor fd (Some k)) t)

abbrev pub double_at : ℕ → TablesState → Option ℕ → ExecResult Doubled TablesState
double_at h t None = Ran doubled.BadDescriptor t
double_at h t (Some k) = double_to h k t (first_empty (descriptors_of (slice_get t.desks h)))

-- the lowest free descriptor names what this one names
unfoldable pub double_descriptor : ℕ → ℕ → TablesState → ExecResult Doubled TablesState
double_descriptor h fd t = double_at h t (place_named h fd t)

-- a descriptor names the place
abbrev pub is_at : ℕ → Option ℕ → Bool
is_at k None = false
is_at k (Some j) = j == k

abbrev pub names : ℕ → Desk → Bool
names k d = list_any (is_at k) d.descriptors

abbrev pub is_named : ℕ → TablesState → Bool
is_named k t = list_any (names k) t.desks

abbrev pub freed_if : ℕ → TablesState → Option OpenFile → Bool → ExecResult Shut TablesState
freed_if k t f true = Ran shut.Closed t
freed_if k t None false = Ran shut.Closed t
freed_if k t (Some f) false = Ran (shut.Last f.number) (with_place k Free t)

abbrev pub freed_at : ℕ → TablesState → ExecResult Shut TablesState
freed_at k t = freed_if k t (open_at (slice_get t.files k)) (is_named k t)

abbrev pub shut_at : ℕ → ℕ → TablesState → Option ℕ → ExecResult Shut TablesState
shut_at h fd t None = Ran shut.BadDescriptor t
shut_at h fd t (Some k) = freed_at k (with_desk h (with_descriptor fd None) t)

-- the descriptor goes, and with the last one the open file, whose reference is the hart's then
unfoldable pub shut_descriptor : ℕ → ℕ → TablesState → ExecResult Shut TablesState
shut_descriptor h fd t = shut_at h fd t (place_named h fd t)

-- ---- what a child is given

abbrev pub given_directory : ℕ → ℕ → TablesState → Option ℕ → ExecResult Given TablesState
given_directory h child t None = Ran (given.Directory (directory_of (slice_get t.desks child))) t
given_directory h child t (Some k) =
    Ran (given.Directory (directory_of (slice_get t.desks child)))
    (with_desk child (λ d. record d { directory = directory_of (slice_get t.desks h) }) (counted_at k t))

abbrev pub has_more : ℕ → ℕ → TablesState → Bool
has_more h fd t = is_some (next_full (fd + 1) (descriptors_of (slice_get t.desks h)))

abbrev pub give_at : ℕ → ℕ → ℕ → TablesState → Option ℕ → ExecResult Given TablesState
give_at h child fd t None = Ran (given.Descriptor fd (has_more h fd t)) t
give_at h child fd t (Some k) = Ran (given.Descriptor fd (has_more h fd t)) (with_desk child (with_descriptor fd (Some k)) t)

abbrev pub give_by : ℕ → ℕ → TablesState → Option ℕ → ExecResult Given TablesState
give_by h child t None = given_directory h child t (place_of (directory_of (slice_get t.desks h)) t.entries)
give_by h child t (Some fd) = give_at h child fd t (place_named h fd t)

-- the child has the hart's next descriptor too; if none is left its directory becomes the hart's
unfoldable pub give_next : ℕ → ℕ → ℕ → TablesState → ExecResult Given TablesState
give_next h child from t = give_by h child t (next_full from (descriptors_of (slice_get t.desks h)))

-- the directory was given
abbrev pub IsDirectory : Given → Type 0
IsDirectory (given.Descriptor fd more) = ⊥
IsDirectory (given.Directory n) = Unit {0}

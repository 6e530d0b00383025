-- What is seen of an inode: its type, its count and size, and what a directory has under a name.
use Rattle.std.specs.Prelude.{ℕ, ℤ, Bool, true, false, ◌&&◌, not, drop, nat_lt, if◌then◌else◌, Option, Some, None}
use Rattle.image_versions.specs.declared.version.Version.{Version}
use Rattle.inode_machine.specs.Vocabulary.{Cause, IsDirectory, NoDriver, NodeType, Stat, Node, NodeKind, Directory, File, Device, Name, look, has_driver, any_used, size_of, root_device}
use Rattle.plain_tree.specs.declared.answer.NodeType.TheVariants as types

-- an inode's type, which it has until it is freed; a device with its major
pub data InodeType : Type 0 where
  OfDirectory : InodeType
  OfFile : InodeType
  OfDevice : ℤ → InodeType

abbrev pub type_of_kind : NodeKind → InodeType
type_of_kind (Directory slots) = OfDirectory
type_of_kind (File bytes) = OfFile
type_of_kind (Device major minor size) = OfDevice major

abbrev pub type_of : Option Node → Option InodeType
type_of None = None
type_of (Some v) = Some (type_of_kind v.kind)

abbrev pub is_directory_type : InodeType → Bool
is_directory_type OfDirectory = true
is_directory_type OfFile = false
is_directory_type (OfDevice major) = false

abbrev pub is_file_type : InodeType → Bool
is_file_type OfDirectory = false
is_file_type OfFile = true
is_file_type (OfDevice major) = false

-- a device is neither read nor written
abbrev pub no_driver_for : InodeType → Option Cause
no_driver_for OfDirectory = None
no_driver_for OfFile = None
no_driver_for (OfDevice major) = Some NoDriver

-- a directory opens without flags alone, a device if it has a driver
abbrev pub open_refusal : Bool → InodeType → Option Cause
open_refusal plain OfDirectory = if plain then None else Some IsDirectory
open_refusal plain OfFile = None
open_refusal plain (OfDevice major) = if has_driver major then None else Some NoDriver

-- what a record tells without its content
pub record Face : Type 0 where
  pub inode_type : InodeType
  pub count : ℕ
  pub size : ℕ

abbrev pub face_of : Version → Option Node → Option Face
face_of version None = None
face_of version (Some v) = Some (record { inode_type = type_of_kind v.kind; count = v.count; size = size_of version v.kind })

-- only a directory with links finds anything
abbrev pub is_live_face : Option Face → Bool
is_live_face None = false
is_live_face (Some f) = nat_lt 0 f.count && is_directory_type f.inode_type

abbrev pub is_directory_face : Option Face → Bool
is_directory_face None = false
is_directory_face (Some f) = is_directory_type f.inode_type

-- a face that is there, or one that nobody asks for
abbrev pub face_or : Option Face → Face
face_or None = record { inode_type = OfFile; count = 0; size = 0 }
face_or (Some f) = f

abbrev pub node_type_of : InodeType → NodeType
node_type_of OfDirectory = types.Directory
node_type_of OfFile = types.File
node_type_of (OfDevice major) = types.Device

abbrev pub stat_of_face : ℕ → Face → Stat
stat_of_face n f = record { device = root_device; inode = n; kind = node_type_of f.inode_type; nlink = f.count; size = f.size }

-- What is looked for in an inode whose lock is taken: nothing, a name, or whether a directory has entries.
pub data Query : Type 0 where
  AtNothing : Query
  AtName : Name → Query
  AtEntries : Query

-- no slot past the first two is used
abbrev pub is_empty_kind : NodeKind → Bool
is_empty_kind (Directory slots) = not (any_used (drop 2 slots))
is_empty_kind (File bytes) = true
is_empty_kind (Device major minor size) = true

abbrev pub is_empty_node : Option Node → Bool
is_empty_node None = true
is_empty_node (Some v) = is_empty_kind v.kind

pub record Sight : Type 0 where
  pub face : Option Face
  pub found : Option ℕ
  pub empty : Bool

abbrev pub found_in : ℕ → Option Node → Query → Option ℕ
found_in n v AtNothing = None
found_in n v (AtName e) = look (λ j. v) n e
found_in n v AtEntries = None

-- known if it was looked for, and otherwise taken for empty
abbrev pub empty_in : Option Node → Query → Bool
empty_in v AtNothing = true
empty_in v (AtName e) = true
empty_in v AtEntries = is_empty_node v

abbrev pub seen_in : Version → ℕ → Query → Option Node → Sight
seen_in version n looking v = record { face = face_of version v; found = found_in n v looking; empty = empty_in v looking }

-- The lines of an image's parts, in the words of docs/FORMATS.md.
use Rattle.std.specs.Prelude.{◌≡◌, ◌<◌, ◌≤◌, ℕ, ℤ, List, ◌++◌, length, Option, Some, None, codes, decimal}
use Rattle.image_reports.specs.Vocabulary.{Appends, Device, Dinode, Directory, File, IsWellFormed, Node, NodeKind, Slot, Super, flat_map, inode_of, number_of, signed_decimal, sizes_of, tree_in, tree_of, version_in}
use Rattle.image_reports.specs.Shown.{shown}

abbrev pub sizes_text : ℕ → Super → List ℕ
sizes_text version s =
    codes "version: " ++ decimal version ++ codes "\nsize in blocks: " ++ decimal s.size ++ codes "\nnumber of data blocks: "
    ++ decimal s.nblocks ++ codes "\nnumber of inodes: " ++ decimal s.ninodes ++ codes "\n"

abbrev pub starts_text : Super → List ℕ
starts_text s =
    codes "number of log blocks: " ++ decimal s.nlog ++ codes "\nstart of log: " ++ decimal s.logstart ++ codes "\nstart of inodes: "
    ++ decimal s.inodestart ++ codes "\nstart of bitmap: " ++ decimal s.bmapstart ++ codes "\n"

abbrev pub super_text : Super → List ℕ
super_text s = sizes_text (number_of s.version) s ++ starts_text s

abbrev pub number_text : ℕ → List ℕ
number_text n = codes " " ++ decimal n

abbrev pub count_text : ℕ → List ℕ
count_text n = codes "number of logged blocks: " ++ decimal n ++ codes "\nnumbers:"

-- how many blocks the log holds, and the number of each
abbrev pub log_text : List ℕ → List ℕ
log_text blocks = count_text (length blocks) ++ flat_map number_text blocks ++ codes "\n"

abbrev pub field_text : List ℕ → ℤ → List ℕ
field_text name value = name ++ codes ": " ++ signed_decimal value ++ codes "\n"

abbrev pub kind_text : Dinode → List ℕ
kind_text d = field_text (codes "type") d.kind ++ field_text (codes "major") d.major

abbrev pub links_text : Dinode → List ℕ
links_text d = field_text (codes "minor") d.minor ++ field_text (codes "links") d.nlink

abbrev pub content_text : Dinode → List ℕ
content_text d = (codes "size: " ++ decimal d.size ++ codes "\naddresses:") ++ flat_map number_text d.addrs ++ codes "\n"

abbrev pub inode_text : Dinode → List ℕ
inode_text d = kind_text d ++ links_text d ++ content_text d

abbrev pub slot_line : Option Slot → List ℕ
slot_line None = codes "free\n"
slot_line (Some s) = decimal s.number ++ codes " " ++ shown s.name ++ codes "\n"

abbrev pub slots_of_kind : NodeKind → Option (List (Option Slot))
slots_of_kind (Directory slots) = Some slots
slots_of_kind (File bytes) = None
slots_of_kind (Device major minor size) = None

abbrev pub slots_of_node : Option Node → Option (List (Option Slot))
slots_of_node None = None
slots_of_node (Some node) = slots_of_kind node.kind

-- the slots of the directory of this number, if there is one in the tree
abbrev pub slots_in : List (List ℕ) → ℕ → Option (List (Option Slot))
slots_in disk number = slots_of_node ((tree_of (tree_in (version_in disk) disk)).nodes number)

-- the inode of this number, if the image has one
abbrev pub IsInode : List (List ℕ) → ℕ → Option Dinode → Type 0
IsInode disk number None = (sizes_of disk).ninodes ≤ number
IsInode disk number (Some inode) = (number < (sizes_of disk).ninodes) × (inode ≡ inode_of disk number)

-- the image is well formed, and the writer got this text
pub record Prints (disk : List (List ℕ)) (text : List ℕ) (out out' : Option (List ℕ)) : Type 0 where
  pub good : IsWellFormed (version_in disk) disk
  pub printed : Appends out out' text

-- the image is well formed and has this inode, whose lines the writer got
pub record PrintsInode (disk : List (List ℕ)) (number : ℕ) (out out' : Option (List ℕ)) : Type 0 where
  pub there : number < (sizes_of disk).ninodes
  pub prints : Prints disk (inode_text (inode_of disk number)) out out'

-- the image is well formed and has this directory, whose lines the writer got
pub record PrintsDirectory (disk : List (List ℕ)) (number : ℕ) (out out' : Option (List ℕ)) : Type 0 where
  pub slots : List (Option Slot)
  pub there : slots_in disk number ≡ Some slots
  pub prints : Prints disk (flat_map slot_line slots) out out'

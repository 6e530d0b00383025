-- The files of an image.
use Rattle.std.specs.Prelude.{◌≡◌, ℕ, List, Option, Some, None}
use Rattle.image_reports.specs.Vocabulary.{Appends, Device, Directory, File, IsWellFormed, Node, NodeKind, tree_in, tree_of, version_in}
use Rattle.image_reports.specs.Paths.{number_at}

abbrev pub bytes_of_kind : NodeKind → Option (List ℕ)
bytes_of_kind (Directory slots) = None
bytes_of_kind (File bytes) = Some bytes
bytes_of_kind (Device major minor size) = None

-- the bytes of a node, if it is a file
abbrev pub bytes_of_node : Option Node → Option (List ℕ)
bytes_of_node None = None
bytes_of_node (Some node) = bytes_of_kind node.kind

abbrev pub bytes_at : List (List ℕ) → ℕ → Option (List ℕ)
bytes_at disk number = bytes_of_node ((tree_of (tree_in (version_in disk) disk)).nodes number)

-- the image is well formed, and the path leads to a file with these bytes
pub record IsFileOf (disk : List (List ℕ)) (path bytes : List ℕ) : Type 0 where
  pub good : IsWellFormed (version_in disk) disk
  pub number : ℕ
  pub there : number_at disk path ≡ Some number
  pub content : bytes_at disk number ≡ Some bytes

-- the image is well formed, and the path leads to a node that is no file
pub record IsNoFileOf (disk : List (List ℕ)) (path : List ℕ) : Type 0 where
  pub good : IsWellFormed (version_in disk) disk
  pub number : ℕ
  pub there : number_at disk path ≡ Some number
  pub content : bytes_at disk number ≡ None

-- the writer got the bytes of the file to which the path leads
pub record GetsFile (disk : List (List ℕ)) (path : List ℕ) (out out' : Option (List ℕ)) : Type 0 where
  pub bytes : List ℕ
  pub file : IsFileOf disk path bytes
  pub printed : Appends out out' bytes

-- The line of a node.
use Rattle.std.specs.Prelude.{ℕ, Bool, if◌then◌else◌, List, [], ◌++◌, Option, Some, None, codes, decimal}
use Rattle.image_reports.specs.Vocabulary.{Version, Node, NodeKind, Directory, File, Device, size_of}
use Rattle.image_reports.specs.Shown.{shown}
use Rattle.image_reports.specs.declared.item.Item.{Item}

abbrev pub kind_word : NodeKind → List ℕ
kind_word (Directory slots) = codes "directory"
kind_word (File bytes) = codes "file"
kind_word (Device major minor size) = codes "device"

-- type, links, size and number
abbrev pub details : Version → ℕ → Node → List ℕ
details v number node =
    kind_word node.kind ++ codes " " ++ decimal node.count ++ codes " " ++ decimal (size_of v node.kind) ++ codes " " ++ decimal number
    ++ codes " "

abbrev pub node_details : Version → ℕ → Option Node → List ℕ
node_details v number None = []
node_details v number (Some node) = details v number node

-- a path and the line's end, after the node's details if the line is long
abbrev pub line_of : Version → (ℕ → Option Node) → Bool → Item → List ℕ
line_of v nodes long item =
    (if long then node_details v item.number (nodes item.number) else []) ++ shown item.path ++ codes "\n"

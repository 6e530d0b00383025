-- The tree that an image of a version must hold: the root with the files' names, and then the files.
use Rattle.std.specs.Prelude.{ℕ, ◌+◌, ◌-◌, ◌/◌, List, [], ◌∷◌, ◌++◌, length, map, replicate, Option, Some, None}
use Rattle.mkfs.specs.Vocabulary.{Slot, Directory, File, Node, TreeData, Version, at_rest, dot, dotdot, root, dirent_len_of}
use Rattle.mkfs.specs.Layout.{root_size}
use Rattle.mkfs.specs.Widths.{first_file}

-- a slot with this number and name
abbrev pub used : ℕ → List ℕ → Option Slot
used number name = Some (record { name = name; number = number })

-- the slots of the files' names: their nodes are numbered upwards
abbrev pub slots_from : ℕ → List (List ℕ) → List (Option Slot)
slots_from number [] = []
slots_from number (name ∷ names) = used number name ∷ slots_from (number + 1) names

-- ".", ".." and the files; after them the slots are free, up to the end of the root's last block
abbrev pub root_slots : Version → List (List ℕ) → List (Option Slot)
root_slots v names =
    used root dot ∷ used root dotdot ∷ slots_from first_file names
    ++ replicate (root_size v (length names) / dirent_len_of v - (2 + length names)) None

abbrev pub root_in_tree : Version → List (List ℕ) → Option Node
root_in_tree v names = Some (record { count = 1; kind = Directory (root_slots v names) })

abbrev pub file_in_tree : List ℕ → Option Node
file_in_tree content = Some (record { count = 1; kind = File content })

-- node 0 is none, the root is node 1, the files follow it, and nothing is open
abbrev pub stated_tree : Version → ℕ → List (List ℕ) → List (List ℕ) → TreeData
stated_tree v ninodes names contents =
    at_rest (None ∷ root_in_tree v names ∷ map file_in_tree contents ++ replicate (ninodes - (2 + length contents)) None)

-- Paths from the root.
use Rattle.std.specs.Prelude.{ℕ, List, ◌∷◌, Option}
use Rattle.image_reports.specs.Vocabulary.{elements, flat_map, follow, root, tree_in, tree_of, version_in}

-- the elements, each after a '/'
abbrev pub path_of : List (List ℕ) → List ℕ
path_of names = flat_map (λ name. 47 ∷ name) names

-- the number of the node to which the path leads in the tree of a disk
abbrev pub number_at : List (List ℕ) → List ℕ → Option ℕ
number_at disk path = follow (tree_of (tree_in (version_in disk) disk)).nodes root (elements (version_in disk) path)

-- Who names whom: the slots of live directories as lists of inode numbers.
use Rattle.std.specs.Prelude.{◌≡◌, ℕ, zero, suc, ◌==◌, not, if◌then◌else◌, List, [], ◌∷◌, drop, filter, slice_index_or, Option, Some, None}
use Rattle.image_tree.specs.Vocabulary.{Version, flat_map, Dirent, Free, Used}
use Rattle.image_tree.specs.Inodes.{inode_of, is_live_directory, slots_of, last}
use Rattle.image_tree.specs.Lists.{gathered, times}

-- the number in a slot, if it is used
abbrev pub slot_number : Option Dirent → List ℕ
slot_number None = []
slot_number (Some Free) = []
slot_number (Some (Used number name)) = number ∷ []

abbrev pub slot_numbers : List (Option Dirent) → List ℕ
slot_numbers slots = flat_map slot_number slots

-- the name in a slot, if it is used
abbrev pub slot_name : Option Dirent → List (List ℕ)
slot_name None = []
slot_name (Some Free) = []
slot_name (Some (Used number name)) = name ∷ []

abbrev pub slot_names : List (Option Dirent) → List (List ℕ)
slot_names slots = flat_map slot_name slots

-- the number in a slot, or 0
abbrev pub number_in : Option Dirent → ℕ
number_in None = 0
number_in (Some Free) = 0
number_in (Some (Used number name)) = number

-- the slots of a live directory
unfoldable pub slots_in : Version → List (List ℕ) → ℕ → List (Option Dirent)
slots_in v disk d = if is_live_directory disk d then slots_of v disk (inode_of disk d) else []

-- the numbers that they name
abbrev pub named_in : Version → List (List ℕ) → ℕ → List ℕ
named_in v disk d = slot_numbers (slots_in v disk d)

-- and those that the slots past the first two name
abbrev pub further_in : Version → List (List ℕ) → ℕ → List ℕ
further_in v disk d = slot_numbers (drop 2 (slots_in v disk d))

-- the directory that a live directory's ".." is
abbrev pub up : Version → List (List ℕ) → ℕ → ℕ
up v disk d = number_in (slice_index_or (slots_in v disk d) 1 None)

-- of those the numbers whose ".." is d
abbrev pub proper_in : Version → List (List ℕ) → ℕ → List ℕ
proper_in v disk d = filter (λ n. up v disk n == d) (further_in v disk d)

-- the ".." of a live directory, if it is another one (0 if d is no live directory)
abbrev pub parent_of : Version → List (List ℕ) → ℕ → List ℕ
parent_of v disk d = filter (λ n. not (n == d)) (up v disk d ∷ [])

-- ---- how often inode i is named: by slots of live directories, by those past the first two, by those in its own
-- "..", and as the ".." of others

abbrev pub names_of : Version → List (List ℕ) → ℕ → ℕ
names_of v disk i = times i (gathered (named_in v disk) (last disk))

abbrev pub further_names_of : Version → List (List ℕ) → ℕ → ℕ
further_names_of v disk i = times i (gathered (further_in v disk) (last disk))

abbrev pub proper_names_of : Version → List (List ℕ) → ℕ → ℕ
proper_names_of v disk i = times i (gathered (proper_in v disk) (last disk))

abbrev pub children_of : Version → List (List ℕ) → ℕ → ℕ
children_of v disk i = times i (gathered (parent_of v disk) (last disk))

-- ---- going up

-- the directory that a number of steps by ".." from d leads to
unfoldable pub climb : (ℕ → ℕ) → ℕ → ℕ → ℕ
climb up zero d = d
climb up (suc n) d = climb up n (up d)

-- some number of steps leads to the root
pub record Reaches (up : ℕ → ℕ) (d : ℕ) : Type 0 where
  pub steps : (n : ℕ) × (climb up n d ≡ 1)

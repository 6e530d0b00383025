-- Words for the promises of the search for the named part.
use Rattle.std.specs.Prelude.{ℕ, ◌≡◌, ◌<◌, length, slice_index_or, Bool, true, false, List, Option, Some}
use Rattle.plain_tree.specs.declared.node.Slot.{Slot}
use Rattle.plain_tree.specs.Basics.{TreeData, Name, Tree, tree_of, first_slot, look, root}
use Rattle.plain_tree.specs.Explains.{IsReached}

-- a number past the marks counts as marked
abbrev pub is_marked : List Bool → ℕ → Bool
is_marked marks n = slice_index_or marks n true

-- what these slots find is marked
abbrev pub FindsMarked : List (Option Slot) → List Bool → Type 0
FindsMarked ss marks = (e : Name) (n : ℕ) → first_slot ss e ≡ Some n → is_marked marks n ≡ true

-- some name finds n there, and it isn't marked
pub record FindsNew (ss : List (Option Slot)) (marks : List Bool) (n : ℕ) : Type 0 where
  pub name : Name
  pub finds : first_slot ss name ≡ Some n
  pub below : n < length marks
  pub unmarked : is_marked marks n ≡ false

-- what the directory finds is marked
abbrev pub LooksMarked : Tree → List Bool → ℕ → Type 0
LooksMarked t marks d = (e : Name) (n : ℕ) → look t.nodes d e ≡ Some n → is_marked marks n ≡ true

pub record LooksNew (t : Tree) (marks : List Bool) (d n : ℕ) : Type 0 where
  pub name : Name
  pub finds : look t.nodes d name ≡ Some n
  pub below : n < length marks
  pub unmarked : is_marked marks n ≡ false

-- what a marked directory finds is marked
abbrev pub IsClosed : Tree → List Bool → Type 0
IsClosed t marks = (d : ℕ) → d < length marks → is_marked marks d ≡ true → LooksMarked t marks d

-- a marked directory finds n, and it isn't marked
pub record IsNext (t : Tree) (marks : List Bool) (n : ℕ) : Type 0 where
  pub directory : ℕ
  pub within : directory < length marks
  pub marked : is_marked marks directory ≡ true
  pub new : LooksNew t marks directory n

-- the marked numbers are reached, and the root is marked
pub record MarksReached (d : TreeData) (marks : List Bool) : Type 0 where
  pub size : length marks ≡ length d.nodes
  pub reached : (n : ℕ) → n < length marks → is_marked marks n ≡ true → IsReached (tree_of d) n
  pub start : is_marked marks root ≡ true

-- exactly the reached numbers are marked
pub record MarksAll (d : TreeData) (marks : List Bool) : Type 0 where
  pub size : length marks ≡ length d.nodes
  pub reached : (n : ℕ) → n < length marks → is_marked marks n ≡ true → IsReached (tree_of d) n
  pub all : (n : ℕ) → IsReached (tree_of d) n → is_marked marks n ≡ true

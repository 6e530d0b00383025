-- The listing of a tree: a line for each name, in the order of their directory's slots, each directory before what is in it.
use Rattle.std.specs.Prelude.{◌≡◌, ℕ, Bool, List, [], ◌∷◌, ◌++◌, drop, Option, Some, None}
use Rattle.image_reports.specs.Vocabulary.{Appends, IsWellFormed, Node, Slot, Version, all_slots, elements, flat_map, tree_in, tree_of, version_in}
use Rattle.image_reports.specs.Lines.{line_of}
use Rattle.image_reports.specs.Paths.{number_at, path_of}
use Rattle.image_reports.specs.declared.item.Item.{Item}

-- what a slot of the directory at this path names
abbrev pub named_at : List ℕ → Option Slot → List Item
named_at path None = []
named_at path (Some s) = record { path = path ++ 47 ∷ s.name; number = s.number } ∷ []

-- what is in a node: what the slots after "." and ".." name
abbrev pub below : (ℕ → Option Node) → Item → List Item
below nodes item = flat_map (named_at item.path) (drop 2 (all_slots (nodes item.number)))

-- the text has each item's line, after it the lines of what is in it, and after these those of the next item
pub data Lists (v : Version) (nodes : ℕ → Option Node) (long : Bool) : List Item → List ℕ → Type 0 where
  ended : Lists v nodes long [] []
  item_first : (item : Item) (items : List Item) (inside after : List ℕ) → Lists v nodes long (below nodes item) inside
      → Lists v nodes long items after → Lists v nodes long (item ∷ items) (line_of v nodes long item ++ inside ++ after)

-- some items have one listing at most
abbrev pub OneListing : Type 0
OneListing = (v : Version) (nodes : ℕ → Option Node) (long : Bool) (items : List Item) (text other : List ℕ)
    → Lists v nodes long items text → Lists v nodes long items other → text ≡ other

-- the writer got the listing from this item on
pub record Listed (v : Version) (nodes : ℕ → Option Node) (long : Bool) (start : Item) (out out' : Option (List ℕ)) : Type 0 where
  pub text : List ℕ
  pub lists : Lists v nodes long (start ∷ []) text
  pub printed : Appends out out' text

-- the image is well formed, the path leads to a node, and the writer got the listing from there on
pub record ListsImage (disk : List (List ℕ)) (path : List ℕ) (long : Bool) (out out' : Option (List ℕ)) : Type 0 where
  pub good : IsWellFormed (version_in disk) disk
  pub number : ℕ
  pub there : number_at disk path ≡ Some number
  pub listed : Listed (version_in disk) (tree_of (tree_in (version_in disk) disk)).nodes long
      (record { path = path_of (elements (version_in disk) path); number = number }) out out'

-- The elements of a path, in their places there.
use Rattle.std.specs.Prelude.{ℕ, ◌+◌, ◌≤◌, ◌⊎◌, List, [], ◌∷◌, length, slice_range, Option, Some, None}
use Rattle.image_versions.specs.declared.version.Version.{Version}
use Rattle.path_walk.specs.Names.{IsName}
use Rattle.path_walk.specs.Vocabulary.{Name}
use Rattle.path_walk.specs.declared.elements.Element.{Element}

-- the name of an element
abbrev pub name_in : List ℕ → Element → Name
name_in path e = slice_range path e.start e.end

pub record IsElement (version : Version) (path : List ℕ) (e : Element) : Type 0 where
  pub ordered : e.start ≤ e.end
  pub within : e.end ≤ length path
  pub rest : e.rest ≤ length path
  pub name : IsName version (name_in path e)

-- the same with this number of bytes before its path
abbrev pub shifted : ℕ → Element → Element
shifted by e = record { start = by + e.start; end = by + e.end; rest = by + e.rest }

-- of two texts, the first of which is this, it is in one
abbrev pub IsInOne : List ℕ → Element → Type 0
IsInOne first e = (e.end ≤ length first) ⊎ (length first ≤ e.start)

-- the last element, if one is left
abbrev pub names_of : List ℕ → Option Element → List Name
names_of path None = []
names_of path (Some e) = name_in path e ∷ []

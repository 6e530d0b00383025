-- The text of a call: a path, and if the call has two the second one after it.
use Rattle.std.specs.Prelude.{ℕ, List, ◌++◌}
use Rattle.inode_parts.specs.Vocabulary.{IsElement, IsInOne, Element, Version}

-- an element is one of the two's
abbrev pub StandsIn : Version → List ℕ → List ℕ → Element → Type 0
StandsIn v path second e = IsElement v (path ++ second) e × IsInOne path e

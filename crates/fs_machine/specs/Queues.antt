-- A queue of references, by the inodes' numbers.
use Rattle.std.specs.Prelude.{ℕ, List, ◌∷◌, Option, Some, None}

-- the first one and the others, in order
abbrev pub queued : Option ℕ → List ℕ → List ℕ
queued None ns = ns
queued (Some n) ns = n ∷ ns

-- The calls of a trace that aren't finished, by their places.
use Rattle.std.specs.Prelude.{◌≡◌, ℕ, ◌+◌, List, [], ◌∷◌, if◌then◌else◌}
use Rattle.hart_core.specs.Vocabulary.{TracedCall, is_nothing}

-- their places, rising, if the first of these calls has this place
unfoldable pub unfinished_from : ℕ → List TracedCall → List ℕ
unfinished_from place [] = []
unfinished_from place (c ∷ cs) = if is_nothing c.finished then place ∷ unfinished_from (place + 1) cs else unfinished_from (place + 1) cs

-- the places are those of the calls that aren't finished
abbrev pub AreUnfinished : List ℕ → List TracedCall → Type 0
AreUnfinished places calls = places ≡ unfinished_from 0 calls

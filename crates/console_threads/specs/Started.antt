-- The calls that harts were asked to start, in a list of events.
use Rattle.std.specs.Prelude.{◌≡◌, ℕ, List, [], ◌∷◌, ◌++◌, ◌==◌, if◌then◌else◌}
use Rattle.console_threads.specs.Vocabulary.{Event, Start, Step, Call}

abbrev pub started_by : ℕ → Event → List Call
started_by hart (Start at call) = if at == hart then call ∷ [] else []
started_by hart (Step at) = []

-- in their order, those too whose start was refused
unfoldable pub starts_in : ℕ → List Event → List Call
starts_in hart [] = []
starts_in hart (event ∷ events) = started_by hart event ++ starts_in hart events

-- each of these harts was asked to start only its own calls, each once and in their order
abbrev pub EachStarted : List Event → List ℕ → List (List Call) → Type 0
EachStarted events [] [] = Unit {0}
EachStarted events [] (calls ∷ more) = ⊥
EachStarted events (hart ∷ harts) [] = ⊥
EachStarted events (hart ∷ harts) (calls ∷ more) = (starts_in hart events ≡ calls) × EachStarted events harts more

-- What the parts of an explanation answer.
use Rattle.std.specs.Prelude.{◌≡◌, List, ℕ}
use Rattle.explain.specs.Vocabulary.{Event}
use Rattle.explain.specs.declared.play.Played.{Played}
use Rattle.explain.specs.Explained.{HasKept, RunOn}

-- A run of the events on the image had these outcomes, and the keeper noted each event, from the image's tree on, and
-- the end.
pub record IsPlayed (image : List ℕ) (events : List Event) (p : Played) : Type 0 where
  pub run : RunOn image events
  pub outcomes : p.outcomes.items ≡ run.outcomes
  pub keeps : HasKept image events run p.keeper

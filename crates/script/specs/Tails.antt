-- The last of many events.
use Rattle.std.specs.Prelude.{◌≡◌, ℕ, List, [], ◌∷◌, ◌++◌}
use Rattle.script.specs.Vocabulary.{keep_last}

pub record TailView (T : Type 0) : Type 0 where
  pub most : ℕ
  pub events : List T

abbrev pub tail : {T : Type 0} → ℕ → List T → TailView T
tail most events = record { most = most; events = events }

-- one more event; the oldest is dropped if they would be too many
abbrev pub with_event : {T : Type 0} → TailView T → T → TailView T
with_event t event = tail t.most (keep_last t.most (t.events ++ event ∷ []))

-- these events after the others, one after the other
abbrev pub with_events : {T : Type 0} → TailView T → List T → TailView T
with_events t [] = t
with_events t (event ∷ events) = with_events (with_event t event) events

-- of all that were noted the last n are there, in their order
abbrev pub TailsHoldTheLast : Type 0 → Type 0
TailsHoldTheLast T = (most : ℕ) (events : List T) → with_events (tail most []) events ≡ tail most (keep_last most events)

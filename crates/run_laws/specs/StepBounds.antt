-- No call takes more than a million steps.
use Rattle.std.specs.Prelude.{ℕ, ◌≤◌, List}
use Rattle.run_laws.specs.Vocabulary.{sizes_of, Call, EventOf, AllHonest, fresh, outcomes, Outside, limit, IsMountable, first, block_calls, Came, Event, HartsOf, events_of, outcomes_of, HasHistory, IsMounted, WorldOf, Version, version_in}
use Rattle.run_laws.specs.Steps.{OfEachCall}

abbrev pub most_steps : ℕ
most_steps = 1000000

-- no more steps than the call's own limit, and that is no more than any call's
abbrev pub AreFew : Version → Call → ℕ → Type 0
AreFew version call steps = (steps ≤ limit version call) × (limit version call ≤ most_steps)

-- Whatever happens on a mounted disk, at answers that the device may give, the steps of each call are few. That holds
-- also after a step found no room, if paths climb, and if the device fails at any moment.
abbrev pub CallsTakeFewSteps : Type 0
CallsTakeFewSteps =
    (disk : List (List ℕ)) (failures : ℕ) (events : List (EventOf Call Outside)) → IsMountable disk
    → AllHonest (block_calls (sizes_of disk)) events (fresh (block_calls (sizes_of disk)) (first disk failures))
    → OfEachCall (AreFew (version_in disk)) events
    (outcomes (block_calls (sizes_of disk)) events (fresh (block_calls (sizes_of disk)) (first disk failures)))

module _ {D : Type 0} (contents : D → List (List ℕ)) (failures : D → ℕ) where
  -- So it is in each run of this world, if the world is as a mount left it.
  abbrev pub RunsTakeFewSteps : WorldOf D → Type 0
  RunsTakeFewSteps w =
      (device : D) (events : List Event) (came : List Came) (new : HartsOf D) → IsMounted contents failures device w
      → HasHistory contents failures w.sizes w.harts events came new
      → OfEachCall (AreFew w.sizes.version) (events_of events) (outcomes_of came)

-- What an observer that reports a run's events to a keeper makes of what it hears.
use Rattle.std.specs.Prelude.{◌≡◌, ◌+◌, ◌-◌, ◌^◌, min, Option, Some, slice_get}
use Rattle.explain.specs.Vocabulary.{Came, Event, Heard}
use Rattle.explain.specs.declared.keep.Telling.{Telling}
use Rattle.explain.specs.Keeps.{HasNoted}

-- The keeper notes the event at its place, and the next one comes next.
pub record TellsKeeper (t : Telling) (c : Came) (heard : Option Heard) (t' : Telling) : Type 0 where
  pub events : t'.events ≡ t.events
  pub place : t'.place ≡ min (t.place + 1) (2 ^ 64 - 1)
  pub noted : (e : Event) → slice_get t.events.now t.place ≡ Some e → HasNoted t.keeper e c heard t'.keeper

-- Which events start a call whose path has the element "..".
use Rattle.std.specs.Prelude.{Bool, false, List, [], ◌∷◌, ◌||◌}
use Rattle.explain.specs.Vocabulary.{Call, Came, Event, call_climbs}
use Rattle.hart_core.specs.declared.events.Event.TheVariants as event
use Rattle.hart_core.specs.declared.events.Came.TheVariants as came

abbrev pub begun_climbs : Call → Came → Bool
begun_climbs call came.Started = call_climbs call
begun_climbs call (came.Refused why) = false
begun_climbs call (came.Stepped outcome) = false

abbrev pub start_climbs : Event → Came → Bool
start_climbs (event.Start hart call) c = begun_climbs call c
start_climbs (event.Step hart) c = false

-- one of these events with these outcomes does
unfoldable pub starts_climb : List Event → List Came → Bool
starts_climb [] cs = false
starts_climb (e ∷ es) [] = false
starts_climb (e ∷ es) (c ∷ cs) = start_climbs e c || starts_climb es cs

-- A lent event and its outcome, as values of their own.
use Rattle.locked_world.specs.Vocabulary.{Event, Came}
use Rattle.hart_core.specs.declared.events.Event.TheVariants as event
use Rattle.hart_core.specs.declared.events.Came.TheVariants as came
use Rattle.hart_core.specs.declared.outcome.Outcome.TheVariants as outcome
use Rattle.locked_world.specs.declared.lent.EventRef.{EventRef}
use Rattle.locked_world.specs.declared.lent.EventRef.TheVariants as lent_event
use Rattle.locked_world.specs.declared.lent.CameRef.{CameRef}
use Rattle.locked_world.specs.declared.lent.CameRef.TheVariants as lent_came

abbrev pub owned_event : EventRef → Event
owned_event (lent_event.Start h call) = event.Start h call.now
owned_event (lent_event.Step h) = event.Step h

abbrev pub owned_came : CameRef → Came
owned_came lent_came.Started = came.Started
owned_came (lent_came.Refused why) = came.Refused why
owned_came lent_came.Idle = came.Stepped outcome.Idle
owned_came (lent_came.Ran kind) = came.Stepped (outcome.Ran kind)
owned_came (lent_came.Done reply) = came.Stepped (outcome.Done reply.now)
owned_came (lent_came.Stopped why) = came.Stepped (outcome.Stopped why)

-- an event with its outcome
abbrev pub owned : EventRef × CameRef → Event × Came
owned p = (owned_event p.0, owned_came p.1)

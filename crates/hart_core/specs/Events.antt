-- Events, and their outcomes.
use Rattle.hart_core.specs.Vocabulary.{Reply, Call, EventOf, StartOf, StepOf, OutcomeOf, WasStarted, WasRefused, Kind, Outside, Passes, State, Refusal}
use Rattle.hart_core.specs.declared.events.Event.{Event}
use Rattle.hart_core.specs.declared.events.Event.TheVariants as event
use Rattle.hart_core.specs.declared.events.Came.{Came}
use Rattle.hart_core.specs.declared.events.Came.TheVariants as came
use Rattle.hart_core.specs.Harts.{outcome_of, said}
use Rattle.hart_core.specs.Starts.{reason_of}

-- what an event asks
abbrev pub event_of : Event → EventOf Call (Unit {0})
event_of (event.Start hart call) = StartOf hart call
event_of (event.Step hart) = StepOf hart tt

-- its outcome, in the words of the calls
abbrev pub came_of : Came → OutcomeOf Kind Reply Refusal
came_of came.Started = WasStarted
came_of (came.Refused why) = WasRefused (reason_of why)
came_of (came.Stepped outcome) = outcome_of outcome

-- what the device answered in it, if it left this state
abbrev pub said_of : Came → State → Outside
said_of came.Started s = Passes
said_of (came.Refused why) s = Passes
said_of (came.Stepped outcome) s = said outcome s

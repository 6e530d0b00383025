-- What is printed and noted of a run that has ended: its events, with the outcome of each.
use Rattle.std.specs.Prelude.{ℕ, List, [], ◌∷◌, ◌++◌, ◌==◌, if◌then◌else◌, Option, Some, None}
use Rattle.console_threads.specs.Vocabulary.{Came, Event, Outcome, Call, reply_line, told_line, What, NotesOf, what_of, what_of_step, with_what, hart_in, refused_text, verb_of, word_of}
use Rattle.hart_core.specs.declared.events.Came.TheVariants as came
use Rattle.hart_core.specs.declared.events.Event.TheVariants as event
use Rattle.hart_core.specs.declared.outcome.Outcome.TheVariants as outcome

-- ---- lines

abbrev pub start_line : ℕ → Call → Came → List ℕ
start_line hart call came.Started = []
start_line hart call (came.Refused why) = told_line hart (word_of (verb_of call)) (refused_text why)
start_line hart call (came.Stepped outcome) = []

abbrev pub outcome_line : ℕ → Outcome → List ℕ
outcome_line hart outcome.Idle = []
outcome_line hart outcome.Waits = []
outcome_line hart (outcome.Ran kind) = []
outcome_line hart (outcome.Done reply) = reply_line hart (word_of (verb_of reply.call)) reply
outcome_line hart (outcome.Stopped stop) = []

abbrev pub step_line : ℕ → Came → List ℕ
step_line hart came.Started = []
step_line hart (came.Refused why) = []
step_line hart (came.Stepped outcome) = outcome_line hart outcome

-- a refused start and a reply have a line
abbrev pub line_of : Event → Came → List ℕ
line_of (event.Start hart call) came = start_line hart call came
line_of (event.Step hart) came = step_line hart came

abbrev pub line_for : ℕ → Event → Came → List ℕ
line_for hart event came = if hart_in event == hart then line_of event came else []

-- the lines of a hart, in the order of the list
unfoldable pub hart_text : ℕ → List Event → List Came → List ℕ
hart_text hart [] outcomes = []
hart_text hart (event ∷ events) [] = []
hart_text hart (event ∷ events) (came ∷ outcomes) = line_for hart event came ++ hart_text hart events outcomes

-- one hart after the other
unfoldable pub harts_text : List Event → List Came → List ℕ → List ℕ
harts_text events outcomes [] = []
harts_text events outcomes (hart ∷ harts) = hart_text hart events outcomes ++ harts_text events outcomes harts

-- ---- notes

abbrev pub what_of_came : Came → Option What
what_of_came came.Started = None
what_of_came (came.Refused why) = None
what_of_came (came.Stepped outcome) = what_of_step outcome

abbrev pub what_in : Event → Came → Option What
what_in (event.Start hart call) came = what_of (verb_of call) came
what_in (event.Step hart) came = what_of_came came

-- after these notes those of the events, in their order
unfoldable pub noted_in : NotesOf → List Event → List Came → NotesOf
noted_in notes [] outcomes = notes
noted_in notes (event ∷ events) [] = notes
noted_in notes (event ∷ events) (came ∷ outcomes) =
    noted_in (with_what notes (hart_in event) (what_in event came) (Some event) came) events outcomes

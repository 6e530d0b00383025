-- What is printed of an event.
use Rattle.std.specs.Prelude.{ℕ, List, [], codes}
use Rattle.console.specs.Vocabulary.{Came, Outcome, Stop, StartRefused, numbered_text, reply_line, told_line}
use Rattle.hart_core.specs.declared.events.Came.TheVariants as came
use Rattle.hart_core.specs.declared.outcome.Outcome.TheVariants as outcome
use Rattle.console.specs.declared.verb.Verb.{Verb}
use Rattle.console.specs.Basics.{start_name, start_number, stop_name, stop_number, EventOfCall, hart_in, word_of}

abbrev pub refused_text : StartRefused → List ℕ
refused_text why = numbered_text (codes "refused") (start_number why) (start_name why)

abbrev pub stopped_text : Stop → List ℕ
stopped_text stop = numbered_text (codes "stopped") (stop_number stop) (stop_name stop)

-- a reply, a refused start and a stopped call have a line
abbrev pub step_told : ℕ → Verb → Outcome → List ℕ
step_told hart verb outcome.Idle = []
step_told hart verb outcome.Waits = []
step_told hart verb (outcome.Ran kind) = []
step_told hart verb (outcome.Done reply) = reply_line hart (word_of verb) reply
step_told hart verb (outcome.Stopped stop) = told_line hart (word_of verb) (stopped_text stop)

abbrev pub told_of : ℕ → Verb → Came → List ℕ
told_of hart verb came.Started = []
told_of hart verb (came.Refused why) = told_line hart (word_of verb) (refused_text why)
told_of hart verb (came.Stepped outcome) = step_told hart verb outcome

abbrev pub told : EventOfCall → List ℕ
told x = told_of (hart_in x.event) x.verb x.came

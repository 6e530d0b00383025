-- What is noted of events, for the lines of --last and the columns of --timeline; and the events themselves with
-- their outcomes, for --explain.
use Rattle.std.specs.Prelude.{ℕ, ◌+◌, Bool, true, false, List, [], ◌∷◌, ◌++◌, Option, Some, None}
use Rattle.console.specs.Vocabulary.{Came, Event, Outcome, Mode, TailView, tail, with_event}
use Rattle.hart_core.specs.declared.events.Came.TheVariants as came
use Rattle.hart_core.specs.declared.outcome.Outcome.TheVariants as outcome
use Rattle.console.specs.declared.verb.Verb.{Verb}
use Rattle.console.specs.declared.notes.Note.{Note}
use Rattle.console.specs.declared.notes.What.{What}
use Rattle.console.specs.declared.notes.What.TheVariants.{Start, Refused, Ran, Waits, Done, Stopped}
use Rattle.console.specs.Sessions.{EventOfCall, hart_in}

-- a step of a hart without a call is no event
abbrev pub what_of_step : Outcome → Option What
what_of_step outcome.Idle = None
what_of_step outcome.Waits = Some Waits
what_of_step (outcome.Ran kind) = Some (Ran kind)
what_of_step (outcome.Done reply) = Some (Done reply.answer)
what_of_step (outcome.Stopped stop) = Some (Stopped stop)

abbrev pub what_of : Verb → Came → Option What
what_of verb came.Started = Some (Start verb)
what_of verb (came.Refused why) = Some (Refused why)
what_of verb (came.Stepped outcome) = what_of_step outcome

-- events in their order, and the outcome of each
pub record KeptRun : Type 0 where
  pub events : List Event
  pub outcomes : List Came

-- the last notes, and how many there were in all; all notes, if there is a timeline; and the whole run, if it is kept
pub record NotesOf : Type 0 where
  pub tail : TailView Note
  pub timeline : Option (List Note)
  pub count : ℕ
  pub kept : Option KeptRun

abbrev pub no_events : KeptRun
no_events = record { events = []; outcomes = [] }

-- if it is wanted
abbrev pub none_kept : Bool → Option KeptRun
none_kept true = Some no_events
none_kept false = None

abbrev pub no_rows : Bool → Option (List Note)
no_rows true = Some []
no_rows false = None

-- with room for the last ones that the mode asks for
abbrev pub no_notes : Mode → NotesOf
no_notes mode = record { tail = tail mode.last []; timeline = no_rows mode.timeline; count = 0; kept = none_kept mode.explain }

abbrev pub with_row : Option (List Note) → Note → Option (List Note)
with_row None note = None
with_row (Some notes) note = Some (notes ++ note ∷ [])

-- the notes of the timeline, in their order
abbrev pub rows_in : Option (List Note) → List Note
rows_in None = []
rows_in (Some notes) = notes

-- the copy to keep, if events are kept
abbrev pub copy_for : Option KeptRun → Event → Option Event
copy_for None event = None
copy_for (Some run) event = Some event

-- the event, of which there is a copy, and its outcome
abbrev pub with_kept : Option KeptRun → Option Event → Came → Option KeptRun
with_kept None copy came = None
with_kept (Some run) None came = Some run
with_kept (Some run) (Some event) came = Some (record { events = run.events ++ event ∷ []; outcomes = run.outcomes ++ came ∷ [] })

-- what is kept
abbrev pub run_in : Option KeptRun → KeptRun
run_in None = no_events
run_in (Some run) = run

-- events are numbered from 0, which are their places among those kept
abbrev pub with_note : NotesOf → ℕ → What → Option Event → Came → NotesOf
with_note n hart what copy came = record {
  tail = with_event n.tail (record { number = n.count; hart = hart; what = what });
  timeline = with_row n.timeline (record { number = n.count; hart = hart; what = what });
  count = n.count + 1;
  kept = with_kept n.kept copy came;
}

abbrev pub with_what : NotesOf → ℕ → Option What → Option Event → Came → NotesOf
with_what n hart None copy came = n
with_what n hart (Some what) copy came = with_note n hart what copy came

abbrev pub noted : NotesOf → EventOfCall → NotesOf
noted n x = with_what n (hart_in x.event) (what_of x.verb x.came) (Some x.event) x.came

unfoldable pub all_noted : NotesOf → List EventOfCall → NotesOf
all_noted n [] = n
all_noted n (x ∷ xs) = all_noted (noted n x) xs

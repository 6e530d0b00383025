-- What the crates below call things: the words that this crate's definitions and contracts use.
pub use Rattle.console.specs.Vocabulary.{Appends, IsWellFormed, call_said, reply_line, told_line}
unfoldable pub use Rattle.console.specs.Vocabulary.{blocks_of}
pub use Rattle.hart_runner.specs.Vocabulary.{HandsBack, StoredRun, replies_of}
pub use Rattle.console.specs.Lines.{CourseOf, called, script_course}
pub use Rattle.console.specs.Notes.{NotesOf, no_notes, what_of, what_of_step, with_what}
pub use Rattle.console.specs.Sessions.{hart_in}
pub use Rattle.console.specs.declared.fault.ConsoleFault.{ConsoleFault}
pub use Rattle.console.specs.Histories.{history_on}
pub use Rattle.console.specs.Images.{JudgesImage, bytes_for, disk_for}
pub use Rattle.console.specs.Runs.{PrintsAll}
pub use Rattle.console.specs.Told.{refused_text}
pub use Rattle.console.specs.Verbs.{verb_of, word_of}
pub use Rattle.console.specs.declared.fault.ConsoleFault.TheVariants.{Memory}
pub use Rattle.console.specs.declared.notes.What.{What}
pub use Rattle.hart_core.specs.declared.events.Event.TheVariants.{Start, Step}
pub use Rattle.hart_runner.specs.Calls.{IsAnswered, IsRefused}
pub use Rattle.hart_runner.specs.Seats.{SeatV, busy_of}
pub use Rattle.locked_world.specs.Kept.{ClosedRun, HasOneHistory, count_of}
pub use Rattle.hart_core.specs.declared.events.Came.{Came}
pub use Rattle.hart_core.specs.declared.events.Event.{Event}
pub use Rattle.hart_core.specs.declared.outcome.Outcome.{Outcome}
pub use Rattle.image_tree.specs.declared.fault.MountFault.{MountFault}
pub use Rattle.plain_tree.specs.declared.answer.Reply.{Reply}
pub use Rattle.plain_tree.specs.declared.call.Call.{Call}
pub use Rattle.script.specs.declared.mode.Mode.{Mode}
pub use Rattle.script.specs.declared.mode.Schedule.TheVariants.{Round}

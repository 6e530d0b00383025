-- The words that most of this crate's other definitions use.
pub use Rattle.console.specs.Images.{bytes_for}
pub use Rattle.console.specs.Lines.{CourseOf, TellsLine, called, script_course}
pub use Rattle.console.specs.Notes.{KeptRun, NotesOf, no_notes, rows_in, run_in}
unfoldable pub use Rattle.console.specs.Notes.{all_noted}
pub use Rattle.console.specs.Numbers.{start_name, start_number, stop_name, stop_number}
pub use Rattle.console.specs.Queues.{QueuedCalls, left_to, none_left}
pub use Rattle.console.specs.Sessions.{EventOfCall, Happens, SessionOf, beside_in, count_of, doing_at, hart_in, is_joined, locks_of, with_beside, known_at}
pub use Rattle.console.specs.Verbs.{verb_of, word_of}

-- What the proofs of this crate's functions use: its lemmas, and what they speak of.
pub use Rattle.console_threads.proofs.Vocabulary.{Appends, Console, Err, HasMade, HasMadeAll, IfErr, IfNone, IfOk, IsWellFormed, JudgesRun, List, None, Ok, Option, RunsThreads, ap, arith, call_said, called, drop, eight_harts, length, map, min, no_notes, subst, sym, ℕ, ◌++◌, ◌+◌, ◌<◌, ◌↔◌, ◌∙◌, ◌≡◌, ◌≢◌, ◌≤◌}
unfoldable pub use Rattle.console_threads.proofs.Vocabulary.{hart_text, harts_text, noted_in, starts_in}
pub use Rattle.console.proofs.Vocabulary.{bytes_for, eq-eqb, script_course}
unfoldable pub use Rattle.console.proofs.Vocabulary.{blocks_of}
pub use Rattle.std.proofs.Common.{eqb-true, map-id, rules}
pub use Rattle.console_threads.proofs.Sent.{task_send}
pub use Rattle.hart_runner.proofs.Sent.{four_send, kernel_sync, six_send, three_send}
pub use Rattle.hart_runner.specs.contracts.gate.NoGate.{the_row}
pub use Rattle.console.specs.Lines.{course}
pub use Rattle.console_threads.proofs.Answering.{none_made, one_made}
pub use Rattle.console_threads.proofs.Asking.{queues_called}
pub use Rattle.console_threads.proofs.Closing.{all_closed}
pub use Rattle.console_threads.proofs.Ending.{end_fails, end_prints, if_ok, mount_judged, run_judged, told_mounted, told_run, unasked, unasked_mounted, unopened}
pub use Rattle.console_threads.proofs.Starting.{beyond, differs, ended, passed, took}
pub use Rattle.console_threads.proofs.Telling.{hart_end, hart_more, line_end, line_more, note_end, note_more}
pub use Rattle.console_threads.proofs.Working.{broken, if_none, whole}
pub use Rattle.console_threads.specs.Started.{EachStarted}
pub use Rattle.console_threads.specs.contracts.work.eight_work.{L-row}
pub use Rattle.script.specs.declared.mode.Schedule.TheVariants.{Round}
pub use Rattle.std.proofs.lemmas.Iterator.Adapters.{YieldsList-from_vec}
pub use Rattle.std.proofs.lemmas.Iterator.Consumers.{YieldsList-end}

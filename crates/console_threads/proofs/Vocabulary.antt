-- What this crate's proofs speak of: its own definitions, and what the crates below and the library call things.
pub use Rattle.console_threads.specs.Vocabulary.{Appends, Call, Came, ConsoleFault, Event, HandsBack, IsWellFormed, Mode, MountFault, NotesOf, PrintsAll, Reply, SeatV, StoredRun, What, call_said, called, count_of, hart_in, history_on, no_notes, replies_of, with_what}
pub use Rattle.console.proofs.Vocabulary.{Bool, Err, IsUntold, JudgesFault, KeptRun, List, None, Ok, OnOk, Option, Result, Some, TellsHistory, WhereSet, [], ap, appends_both, appends_nothing, arith, at_drop_all, at_drop_more, copy_for, drop, false, get_or, inl, inr, length, length-append, length-drop, map, min, nil_from_length, refl, run_in, subst, sym, true, with_note, ℕ, ◌*◌, ◌++◌, ◌+◌, ◌-◌, ◌<◌, ◌∙◌, ◌∷◌, ◌≡◌, ◌≤◌}
pub use Rattle.hart_runner.proofs.Vocabulary.{All, crosses, slice_index_or, ◌≢◌}
pub use Rattle.image_tree.proofs.Vocabulary.{append_assoc, sum_by-cons, ◌↔◌}
pub use Rattle.console_threads.specs.Worked.{AllAnswered, EachAnswered, EachWorked, HasMade, HasMadeAll, HasWorked, eight_harts}
unfoldable pub use Rattle.console_threads.specs.Worked.{AnswersSome}
pub use Rattle.console_threads.specs.Told.{line_for, what_in}
unfoldable pub use Rattle.console_threads.specs.Told.{hart_text, harts_text, noted_in}
pub use Rattle.console_threads.specs.declared.work.Task.{Task}
pub use Rattle.console_threads.specs.declared.work.Worked.{Worked}
pub use Rattle.std.proofs.Common.{IfErr, IfNone, IfOk, append-nil, sum_by}
pub use Rattle.std.proofs.lemmas.Simd.{map-map}
pub use Rattle.console_threads.specs.Asked.{IsAsked, IsUnasked}
pub use Rattle.console_threads.specs.Faults.{IsMounted, JudgesRun, of_mount}
pub use Rattle.console_threads.specs.Runs.{IsNoRun, IsPrinted, IsUnprinted, IsUntoldRun, RunsThreads, TellsRun}
pub use Rattle.console_threads.specs.Started.{started_by}
unfoldable pub use Rattle.console_threads.specs.Started.{starts_in}
pub use Rattle.console_threads.specs.declared.fault.ThreadsFault.{ThreadsFault}
pub use Rattle.console_threads.specs.declared.fault.ThreadsFault.TheVariants.{Console, Device, Strange}
pub use Rattle.console_threads.specs.declared.work.Broke.{Broke}
pub use Rattle.hart_runner.proofs.Eight.{eight}
pub use Rattle.hart_runner.proofs.Sent.{seat_send}
pub use Rattle.script.specs.declared.call.CallLine.{CallLine}
pub use Rattle.std.proofs.lemmas.List.Elements.{All-cons, All-head, All-nil, All-tail}
pub use Rattle.std.specs.declared.sync.ledger.Ledger.{Ghosts}

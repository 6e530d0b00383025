-- What this crate's proofs speak of: its own definitions, and what the crates below and the library call things.
pub use Rattle.hart_core.proofs.Vocabulary.{Answers, Began, Begins, Bool, Code, ExecResult, DidEnd, DidRun, DidStop, DidWait, Do, EventOf, Explains, HartsOf, HasHistory, IsPlaced, IsSettled, IsWellFormed, List, Makes, None, Op, Option, OutcomeOf, Outside, Passes, Plain, PlainMade, Ran, Refusal, Refused, Refuses, Ret, SharedState, Some, Start, Started, Step, Stops, Theory, TreeData, Waits, WasIdle, WasStopped, [], ap, arith, block_calls, block_code, buffer_count, calls_of, came_of, exec_result_in, eqb-true, event_of, false, fault_count_of, file_named, get_or, get_or_past, hart_count, inl, inr, joined as joined_count, length, length-append, length-map, length-take, map, map-append, min, nil_from_length, plain_begun, plain_makes, plain_moved, plain_prog, plain_start, plain_step, plain_tried, plain_unless, refl, replicate, set, shared_of, subst, suc, sym, take, trace_in, tree_in, true, with_answer, zero, ℕ, ◌*◌, ◌++◌, ◌+◌, ◌-◌, ◌<◌, ◌∙◌, ◌∷◌, ◌≡◌, ◌≤◌}
unfoldable pub use Rattle.hart_core.proofs.Vocabulary.{sizes_of, unused_from}
pub use Rattle.fs_machine.proofs.Vocabulary.{CheckFile, Claim, Close, Commit, Directory, Double, Down, Err, Fails, Freed, Get, GiveDescriptor, GuardState, Held, IfSome, Join, JoinToWrite, Leave, Lock, LockFile, LockOpen, Number, Ok, OnOk, Put, Read, Reply, Result, SeatState, SetDirectory, SlotState, State, TablesState, TakeDescriptor, TakePlace, Unlock, Up, Walked, claim_first, claims, commit_if, cond, got_by, in_log, in_tables, join_if, join_unless, join_waits, joins, kind_of, limit_of, lock_open, place_named, place_of, read_block, turn_is_out, with_open, write_log}
unfoldable pub use Rattle.fs_machine.proofs.Vocabulary.{exec, get_of, lock_of}
pub use Rattle.console.specs.Vocabulary.{AreHarts, Appends, Asked, ExplainRefused, Global, HandsOutKept, HasNoted, Help, IsRefusedBy, IsRefusedSo, KeptTree, Mode, NotesEvent, OwnsRun, any_climbs, any_full, heard_by, heard_in, nothing_kept, Nothing, Quit, Run, StartsOn, Version, version_in, Stop, asked_in, entry_line, line_said, numbered, said_of, ended, some_lacks_place}
unfoldable pub use Rattle.console.specs.Vocabulary.{blocks_of, typed_lines}
pub use Rattle.image_tree.proofs.Vocabulary.{Vec, drop, eqb, get_or-map}
pub use Rattle.script.proofs.Vocabulary.{All, End, Line, Upto, at_drop_all, at_drop_more, codes, length-drop}
pub use Rattle.buffer_cache.proofs.Vocabulary.{map-set, map-set_same}
pub use Rattle.calls_on_blocks.proofs.Vocabulary.{Answer, take_all}
pub use Rattle.mkfs.proofs.Vocabulary.{option_map, take-replicate}
pub use Rattle.explain.proofs.Vocabulary.{JudgesFault, RunOn, never}
pub use Rattle.console.specs.declared.fault.ConsoleFault.{ConsoleFault}
pub use Rattle.console.specs.Sessions.{EventOfCall, Happens, Hears, HearsOf, KeepsBeside, SessionOf, beside_in, doing_at, done_after, hart_in, is_event, is_event_step, with_beside, known_at}
pub use Rattle.console.specs.Notes.{KeptRun, NotesOf, copy_for, no_notes, none_kept, noted, run_in, what_of, with_kept, with_note, with_what}
unfoldable pub use Rattle.console.specs.Notes.{all_noted}
pub use Rattle.console.specs.Behaviours.{Behaviour, GoesOn, IfTold, IsOrMemory, IsWritten, Runs, IsPrintedAndNoted, in_case}
unfoldable pub use Rattle.console.specs.Behaviours.{followed_by, gives, prints, takes_memory}
pub use Rattle.console.specs.Histories.{ExplainsRun, HasLine, HasNoList, History, HistoryBeside, IsAsMounted, IsFound, IsOwn, IsUnfound, IsUntold, TellsHistory, TellsWhy, WhereSet, history_at, history_from, history_kept, history_of, history_on, why_line}
unfoldable pub use Rattle.console.specs.Histories.{entries_text}
pub use Rattle.console.specs.declared.doing.Doing.{Doing}
pub use Rattle.console.specs.Commands.{IsPassed, RunOf, acts_as, all_harts, flow_of, goes_on, in_steps, is_enough, joined, starts, state, tells_flow, to_end, up_to, wait_text}
unfoldable pub use Rattle.console.specs.Commands.{acts, happens, line, lines, settles, tells_waits, turn, turns}
pub use Rattle.console.specs.Queues.{QueuedCalls, TakesNext, left_to, none_left, or_line, started_in, with_last, with_start}
unfoldable pub use Rattle.console.specs.Queues.{queued}
pub use Rattle.console.specs.Runs.{EndsOn, EndsSo, FailsUnread, PrintsAll, RunsCourse, RunsReader, RunsScript, or_stopped}
pub use Rattle.console.specs.declared.verb.Verb.{Verb}
pub use Rattle.console.specs.Lines.{CourseOf, FailsTo, IsMemory, TellsLine, called, script_course}
pub use Rattle.console.specs.Prompts.{Follows, IsFirst, PromptsAll, PromptsImage, PromptsLine, PromptsOn, PromptsReader, ReadsLine, TellsBad, answers_next, bad_text, does, does_or_tells, doing_text, first_of, mark, state_text}
unfoldable pub use Rattle.console.specs.Prompts.{answers, calls_text, prompts, prompts_all, reads, tells_bad}
pub use Rattle.console.specs.Verbs.{verb_of}
pub use Rattle.console.specs.declared.flow.Flow.{Flow}
pub use Rattle.console.specs.declared.plan.Plan.{Plan as PlanOf}
pub use Rattle.console.specs.declared.plan.Until.{Until}
pub use Rattle.script.proofs.Appending.{appends_both, appends_nothing}
pub use Rattle.atomic_programs.specs.Plain.{UnmarkedProgram}
pub use Rattle.block_device.specs.Blocks.{most_faults}
pub use Rattle.console.specs.Images.{JudgesImage, RefusesDisk, bytes_for}
pub use Rattle.calls_on_blocks.specs.Layer.{exec_shared}
pub use Rattle.console.specs.Events.{last_line, timeline_line}
unfoldable pub use Rattle.console.specs.Events.{last_text, timeline_rows}
pub use Rattle.console.specs.Faults.{of_mount}
pub use Rattle.console.specs.Scripts.{HandsOut, IsMountedOn, IsUntaken, RunsImage, RunsOn, TakesNoImage}
pub use Rattle.console.specs.Told.{told_of}
pub use Rattle.console.specs.declared.fault.ConsoleFault.TheVariants.{Memory}
pub use Rattle.console.specs.declared.flow.Flow.TheVariants.{Moves, Rests}
pub use Rattle.console.specs.declared.notes.Note.{Note}
pub use Rattle.console.specs.declared.notes.What.{What}
pub use Rattle.console.specs.declared.verb.Verb.TheVariants.{Open}
pub use Rattle.explain.proofs.Noting.{was_told}
pub use Rattle.explain.proofs.Running.{kept_explains, kept_none_full, owns_this, refused_of, so_refused}
pub use Rattle.hart_core.proofs.Histories.{history_more, no_history}
pub use Rattle.script.specs.Asking.{with_byte}
pub use Rattle.script.specs.declared.command.ScriptLine.{ScriptLine}
pub use Rattle.std.proofs.Common.{eq-eqb}
pub use Rattle.std.proofs.lemmas.List.{drop-map}
pub use Rattle.std.specs.Io.BufRead.{DropsThrough, drop_through, take_through}
pub use Rattle.std.specs.Io.KnownBytes.{IsAtEnd, append_known}
pub use Rattle.std.specs.Option.{option_to_list}
pub use Rattle.buffer_cache.specs.declared.got.Got.{Got}
pub use Rattle.fs_layout.specs.declared.superblock.Super.{Super}
pub use Rattle.fs_machine.specs.InMemory.{Inode, Loaded}
pub use Rattle.fs_machine.specs.declared.files.NewFile.{NewFile}
pub use Rattle.fs_machine.specs.declared.files.OpenFile.{OpenFile}
pub use Rattle.fs_machine.specs.declared.files.Refused.{Refused as RefusedState}
pub use Rattle.fs_machine.specs.declared.files.Want.{Want}
pub use Rattle.fs_machine.specs.declared.kind.Kind.{Kind}
pub use Rattle.hart_core.specs.declared.events.Came.{Came}
pub use Rattle.hart_core.specs.declared.events.Event.{Event}
pub use Rattle.image_tree.specs.declared.fault.MountFault.{MountFault}
pub use Rattle.plain_tree.specs.declared.call.Call.{Call}
pub use Rattle.plain_tree.specs.declared.trace.Placed.{Placed}

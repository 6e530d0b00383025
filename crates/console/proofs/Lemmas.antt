-- What the proofs of this crate's functions use: its lemmas, and what they speak of.
pub use Rattle.console.proofs.Vocabulary.{Appends, ConsoleFault, Err, FailsTo, Flow, Help, IsWellFormed, JudgesImage, QueuedCalls, List, Memory, Moves, None, NotesOf, Nothing, Ok, OnOk, Option, PromptsAll, PromptsReader, Quit, RefusesDisk, Rests, Result, Run, RunOf, Runs, RunsReader, [], all_harts, ap, arith, asked_in, codes, doing_at, drop, false, get_or_past, hart_in, history_at, history_from, history_kept, history_on, beside_in, nothing_kept, Some, in_steps, inr, length, length-map, line_said, map, none_left, numbered, of_mount, refl, run_in, state, subst, suc, sym, to_end, true, up_to, ℕ, ◌++◌, ◌+◌, ◌-◌, ◌<◌, ◌∙◌, ◌∷◌, ◌≡◌, ◌≤◌}
unfoldable pub use Rattle.console.proofs.Vocabulary.{blocks_of, calls_text, entries_text, last_text, lines, queued, tells_waits, timeline_rows, turn, turns}
pub use Rattle.console.specs.Vocabulary.{State, asked_by, call_said, shape_line, shape_of, stat_text, styled_decimal}
pub use Rattle.std.proofs.Common.{rules, tests, true≢false}
pub use Rattle.script.proofs.Appending.{tells_both}
pub use Rattle.console.proofs.Mounting.{image_prompted, image_run, image_untaken, judged_at, judged_so, mount_refused, mounted_on, not_taken, prompted_on, ran_on, refused_judged}
pub use Rattle.console.proofs.Telling.{found, found_on, line_told, list_told, unfound, unfound_on, why_told}
pub use Rattle.console.proofs.Keeping.{at_is, prompts_again, reader_again}
pub use Rattle.console.specs.Lines.{course, or_bad}
pub use Rattle.std.proofs.lemmas.Iterator.Adapters.{YieldsList-from_vec}
pub use Rattle.std.proofs.lemmas.Iterator.Consumers.{YieldsList-end, YieldsList-turn}
pub use Rattle.std.proofs.lemmas.List.{append_assoc, length_push, set_past}
pub use Rattle.std.specs.Prelude.{decimal, ◌^◌}
pub use Rattle.console.proofs.Answering.{answered, bad_answered, bad_told, bad_unanswered, done_as, end_untold, ends_all, input_ends, line_answered, line_hinted, line_unhinted, no_line_more, no_memory_to_answer, one_line_more, ran, ran_to_fault, told_then, too_many_lines, unasked, unread, untold}
pub use Rattle.console.proofs.BadLines.{course_read, fails_before, memory_fails}
pub use Rattle.console.proofs.Behaving.{gives_at_once}
pub use Rattle.console.proofs.Calm.{run_judged}
pub use Rattle.console.proofs.Commanding.{all_is, began_next, end_is, had_enough, had_none, happened, line_fault, line_more, lines_end, made_step, not_started, of_line, quiet, run_line, run_line_fault, settle_fault, settle_line, settled_so, start_line, start_line_fault, started, step_line, step_line_fault, turn_end, turn_fault, turn_more, turns_end, turns_fault, turns_more, turns_rest, upto_is, wait_end, wait_fault, wait_more, with_plan, with_turns}
pub use Rattle.console.proofs.Doings.{doing_set}
pub use Rattle.console.proofs.Hearing.{keeps_beside}
pub use Rattle.console.proofs.Printing.{entries_end, entries_more, last_end, last_more, row_at, rows_over, spaces_are, tells_five}
pub use Rattle.console.proofs.Prompting.{calls_end, calls_more, lines_answered}
pub use Rattle.console.proofs.Queueing.{all_queued, none_past, not_queued, one_queued, put_last, split_at, taken}
pub use Rattle.console.proofs.Running.{course_run, ends_as, failed_course, stopped_so, was_read, whole_text, with_course}
pub use Rattle.console.proofs.Stopping.{came_calm}
pub use Rattle.console.proofs.Typing.{read_ended, read_endless, read_none}
pub use Rattle.console.specs.Events.{timeline_head, timeline_of}
pub use Rattle.console.specs.declared.fault.ConsoleFault.TheVariants.{Stopped}
pub use Rattle.console.specs.declared.flow.Flow.TheVariants.{Waits}
pub use Rattle.plain_tree.specs.Numbers.{type_number}
pub use Rattle.script.specs.Asking.{GivesAsked}
pub use Rattle.std.proofs.lemmas.Bool.Decides.{Decides-eqb}
pub use Rattle.std.proofs.lemmas.Simd.{map-map}
pub use Rattle.std.proofs.lemmas.Slice.Eq.{ends_is}

-- What the proofs of this crate's functions use: its lemmas, and what they speak of.
pub use Rattle.hart_core.proofs.Vocabulary.{Answers, AreHarts, AreUnfinished, DidRun, Event, HartsOf, Heard, HasMarks, IdleHartsHaveNothing, IsWellFormed, List, Makes, MayStep, None, Option, Outcome, Passes, PlainHonest, QuietBlocksAreAnImage, RunLeavesABeginning, Running, Some, Start, Started, Step, StepsAt, Super, WaitsByTheRule, WasIdle, WorldOf, [], ap, append_assoc, arith, block_calls, blocks, busy_in, came_of, children_in, code, ends_at, event_of, false, file_named, get_or, hart_step, is_some, last_of, length, marks_told, outcome_of, plain, plain_makes, program_at, programs_of, refl, refusal_of, set, set-set, shared_of, slice_get, slice_set, state_of, subst, sym, take, trace_in, true, with_answer, ℕ, ◌&&◌, ◌++◌, ◌+◌, ◌-◌, ◌∙◌, ◌∷◌, ◌≡◌, ◌≤◌}
unfoldable pub use Rattle.hart_core.proofs.Vocabulary.{running_of, sizes_of, unfinished_from}
pub use Rattle.inodes_on_blocks.proofs.Vocabulary.{rules, slice_get_within}
unfoldable pub use Rattle.inodes_on_blocks.proofs.Vocabulary.{any_below}
pub use Rattle.hart_core.proofs.Refusals.{bytes_below, may_start}
pub use Rattle.hart_core.proofs.Stepping.{all_idle, all_set, begun_fits, begun_in, honest_past, idle_past, is_at, leaves_same, ran}
pub use Rattle.hart_core.proofs.Unfinished.{Ending, all_ended, all_left, ends_with, is_within, keeps_finished, meets, no_calls, one_more, passes_with, starts}
pub use Rattle.hart_core.specs.Harts.{said}
pub use Rattle.plain_tree.proofs.ReadLemmas.{below_all, below_more, below_true}
pub use Rattle.std.specs.Vec.Iter.{into_iter_items, into_iter_len}
pub use Rattle.atomic_programs.proofs.Tables.{honest_here, step_gives}
pub use Rattle.hart_core.proofs.Histories.{explained, one_each, trace_next, trace_none, trace_whole}
pub use Rattle.hart_core.proofs.Keeping.{idle_harts_have_nothing, quiet_blocks_are_an_image}
pub use Rattle.hart_core.proofs.Lasting.{same_sizes, world_left}
pub use Rattle.hart_core.proofs.Mounted.{handed_back, refused_memory, settled_so, sizes_so, tree_so, well_found, well_so}
pub use Rattle.hart_core.proofs.Resting.{world_mounted}
pub use Rattle.hart_core.proofs.RightCalls.{right_call}
pub use Rattle.hart_core.proofs.Stopping.{first_marks, leaves_a_beginning, next_marks}
pub use Rattle.hart_core.proofs.Waiting.{waits_by_the_rule}
pub use Rattle.hart_core.proofs.Worlds.{idle_at, made_refused, made_start, made_step, may_here, world_started, world_stepped}
pub use Rattle.hart_core.specs.Events.{said_of}
pub use Rattle.hart_core.specs.Starts.{fault_of}
pub use Rattle.hart_core.specs.Telling.{NotesRun, SetsAt, StaysAt, TellsEvent, TellsOutcome, hart_of, heard_at, heard_by, heard_in}
pub use Rattle.std.proofs.Common.{append-nil, vec_len}
pub use Rattle.std.proofs.lemmas.Grind.{common_steps}
pub use Rattle.std.specs.Vec.{vec_capacity}
pub use Rattle.hart_core.proofs.Telling.{done_others, done_tells, none_there, notes_more, notes_none, ran_tells, set-own, stays_same, stops_tells, waits_tells}
pub use Rattle.syscalls.specs.Places.{HasBegun}

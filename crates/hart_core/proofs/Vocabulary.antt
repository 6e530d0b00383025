-- What this crate's proofs speak of: its own definitions, and what the crates below and the library call things.
pub use Rattle.hart_core.specs.Vocabulary.{AreFreed, AreNamed, Heard, heard_of, Begins, Call, CameTo, Chdir, Close, Code, Core, DeviceFault, DidEnd, DidRun, DidStop, DidWait, Dup, EventOf, Explains, Fstat, Inherit, IsElsewhere, IsMountable, IsNamedPart, IsOutsideLog, IsPlaced, IsSized, IsWellFormed, Kind, LeavesTied, Link, Marks, MayOf, Mkdir, MountFault, Op, OpenCall as Open, Other, OutcomeOf, Outside, P, Passes, Placed, Plain, PlainHonest, PlainHonestStep, Read, Refusal, Replied, Reply, Running, Shown, StartOf as Start, Started as Begun, StepOf as Step, Super, Theory, Trace, TracedCall, TreeData, Unlink, WasIdle, WasRefused as Refused, WasStarted as Started, WasStopped, Write, all_asked, are_bytes, at_point, before, block_at, block_calls, block_code, buffer_count, call_climbs, child_of, ends_at, fault_count_of, first, fresh, hart_count, hart_step, has_file, holder_of, is_joined, is_marked, is_nothing, joined, list_any, marks_at, marks_told, no_marks, or_else, plain_at, plain_makes, plain_outcomes, plain_run, program_at, run, state_of, trace_of, tree_in, tree_of, version_in, with_answer, Chain, Version}
unfoldable pub use Rattle.hart_core.specs.Vocabulary.{May, MayWait, acts_of, logged, numbers_by, recovered, running_of, sizes_of, unused_from}
pub use Rattle.calls_on_blocks.proofs.Vocabulary.{All, AllHonest, Alone, AreEventsOn, Began, BeganCommit, Bool, Both, ExecResult, Do, HasReplied, HonestStep, IsGoodSuper, IsHonest, IsMarked, LeavesABeginning, List, MoveMachine, None, OfNext, OpWithAnswer, Option, PartOf, Ran, Refuses, Ret, Run, RunsOn, SharedState, Some, Some-inj, Sound, StartsBy, State, Stops, Waits, World, [], all_told, ap, append-nil, append_assoc, arith, asks, asks_wrong, began_to, begin_in, begins, begun, begun_both, begun_by, block_moves, climbs_at, exec_result_in, elements, false, file_named, first_world, get_or, if_hart, if◌then◌else◌, inl, inr, is_point, is_some, length, length-set, length-take, log_at, makes, map, moved, nat_lt, nat_tests, next, not, noted, put_elim, quiet_worlds_are_images, refl, served_calls, serves, shown_by, shows, slice_set, sound_run, start_run, step_prog, step_run, step_unless, subst, suc, sym, take, take_more, theory_of, told_between, tried, true, zero, ℕ, ◌&&◌, ◌*◌, ◌++◌, ◌+◌, ◌-◌, ◌<◌, ◌==◌, ◌||◌, ◌∙◌, ◌∷◌, ◌≡◌, ◌≢◌, ◌≤◌, ◌⊎◌}
unfoldable pub use Rattle.calls_on_blocks.proofs.Vocabulary.{put}
pub use Rattle.atomic_programs.proofs.Vocabulary.{EventOutcome, Holds, IsExplained, Made, PlainMade, SoundPlain, all_by_kind, asked, by_kind, changed, eqb-false, eqb-true, erase, get_or-set_other, get_or-set_same, hart_moved, is_some as is_called, nat_eq, outcomes, own, plain, plain_begun, plain_moved, plain_prog, plain_start, plain_step, plain_tried, plain_unless, prog_of, set, set-set, slice_get, told, unchanged}
pub use Rattle.plain_tree.proofs.Vocabulary.{Act, Belongs, act_of, cases_Bool, filter, is_empty, replicate, ◌^◌}
unfoldable pub use Rattle.plain_tree.proofs.Vocabulary.{AllBelong, pieces}
pub use Rattle.inodes_on_blocks.proofs.Loading.{empty_hand}
pub use Rattle.inodes_on_blocks.proofs.Vocabulary.{All-cons, All-head, All-nil, All-tail, MatchOption, get_or_past, length-append, length-map, min, mounted, resting_log}
pub use Rattle.fs_machine.proofs.Vocabulary.{part_of, turn_is_out}
pub use Rattle.inode_machine.proofs.Vocabulary.{first_wrong, has_zero, path_limit, path_wrong}
pub use Rattle.inode_machine.specs.MoveCalls.{HasOneHistory}
pub use Rattle.syscalls.proofs.Vocabulary.{HasOne, IsCall, IsPath}
pub use Rattle.hart_core.specs.Harts.{AreHarts, HartFits, HartsOf, busy_in, children_in, outcome_of, programs_of, shared_of}
pub use Rattle.calls_on_blocks.proofs.Lawful.{is_code, lawful}
pub use Rattle.hart_core.specs.Worlds.{Answers, IsWorld, Makes, WorldOf, calls_of}
pub use Rattle.hart_core.specs.Mounting.{HandsBack, IsSettled, Rests}
pub use Rattle.atomic_programs.proofs.Erased.{erase-makes, erase-outcomes, erase-run, plain_run-more}
pub use Rattle.hart_core.specs.Events.{came_of, event_of}
pub use Rattle.hart_core.specs.Runs.{AllAnswer, HasHistory, IsHistory, IsMounted, NoneClimbs, OneHart, OneHistory, all_shown, events_of, outcomes_of, shown, shown_outcome, trace_in}
pub use Rattle.hart_core.specs.Starts.{IsOfBytes, child_refusal, fault_of, is_child, longest_part, longest_path, others_refusal, part_fault, path_fault, reason_of, refusal_of}
pub use Rattle.hart_core.specs.Stops.{HasMarks, HoldsABeginning, IsMarkedBy, RunLeavesABeginning, doubt_of, last_of, log_of, marks_in, marks_of, next_of, up_to}
pub use Rattle.hart_core.specs.declared.events.Came.{Came}
pub use Rattle.hart_core.specs.declared.events.Event.{Event}
pub use Rattle.atomic_programs.proofs.Reached.{came_more, came_none, honest_event, sound_explained, sound_may}
pub use Rattle.hart_core.specs.Blocks.{MayStep, blocks, code}
pub use Rattle.hart_core.specs.declared.outcome.Outcome.{Outcome}
pub use Rattle.hart_core.specs.declared.starts.StartRefused.{StartRefused}
pub use Rattle.atomic_programs.proofs.Advances.{hart_advances}
pub use Rattle.atomic_programs.proofs.Tables.{start_gives}
pub use Rattle.calls_on_blocks.proofs.Beginnings.{one_hart_leaves_a_beginning, stops_leave_a_beginning}
pub use Rattle.calls_on_blocks.proofs.Events.{next_now}
pub use Rattle.calls_on_blocks.proofs.History.{one_hart, one_history}
pub use Rattle.calls_on_blocks.proofs.Starting.{begun_here}
pub use Rattle.calls_on_blocks.proofs.Stops.{first_sound, sizes_stay, stops_leave_images}
pub use Rattle.calls_on_blocks.proofs.Told.{marks_of_mounts}
pub use Rattle.calls_on_blocks.proofs.Whole.{marks_part_none, the_cuts_have_replies}
pub use Rattle.calls_on_blocks.specs.Stops.{disk_after}
pub use Rattle.hart_core.specs.Promised.{HasNothing, IdleHartsHaveNothing, MustWait, NextMustWait, NoneJoined, QuietBlocksAreAnImage, ShowsImage, WaitsByTheRule, copied_next}
pub use Rattle.hart_core.specs.Unfinished.{AreUnfinished}
unfoldable pub use Rattle.hart_core.specs.Unfinished.{unfinished_from}
pub use Rattle.hart_core.specs.declared.starts.StartRefused.TheVariants.{Busy, NoSuchHart, NotEmptyHart, PathTooLong, TooLong, ZeroInPath}
pub use Rattle.plain_tree.specs.Explains.{IsInTime, no_calls}
unfoldable pub use Rattle.plain_tree.specs.Explains.{trace_from}
pub use Rattle.std.proofs.Math.Seq.{get_or-append_seam, set-append_seam}
pub use Rattle.std.proofs.lemmas.List.{map-append, nil_from_length}
pub use Rattle.std.proofs.lemmas.List.Edits.{remove-append_right}
pub use Rattle.std.specs.List.{remove}
pub use Rattle.syscalls.proofs.HasOnes.{has_running}
pub use Rattle.syscalls.proofs.Staying.{stays}
pub use Rattle.syscalls.specs.Places.{HasBegun, StepsAt}
pub use Rattle.whole_calls.specs.Calls.{most_listed}
pub use Rattle.fs_machine.specs.declared.files.OpenFile.{OpenFile}
pub use Rattle.image_versions.specs.Versions.{name_len_of}

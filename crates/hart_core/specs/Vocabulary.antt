-- What the crates below call things: the words that this crate's definitions and contracts use.
pub use Rattle.calls_on_blocks.specs.Vocabulary.{Answer, Begins, Code, DidEnd, Event as EventOf, IsMountable, IsNamedPart, IsPlaced, IsWellFormed, LogPart, Op, Outside, Refusal, Start as StartOf, Step as StepOf, Theory, Tree, are_bytes, before, fresh, is_open, joined, no_marks, or_else, run, tree_in, tree_of, version_in, Chain, Version}
unfoldable pub use Rattle.calls_on_blocks.specs.Vocabulary.{exec, sizes_of}
pub use Rattle.inodes_on_blocks.specs.Vocabulary.{HasBytes, HasWholeBlocks, IsOutsideLog, Machine, State, TablesState, block_at, buffer_count, count_of, file_named, holder_of as buffer_holder, is_held_by, is_marked, lock_holder as holder_of, seen_of}
unfoldable pub use Rattle.inodes_on_blocks.specs.Vocabulary.{May, MayWait, logged, numbers_by, recovered, unused_from}
pub use Rattle.tree_laws.specs.Vocabulary.{Other, Replied, Shown, Started, TreeData, call_climbs, noted, trace_of}
pub use Rattle.plain_tree.specs.Explains.{Explains}
unfoldable pub use Rattle.tree_laws.specs.Vocabulary.{acts_of}
pub use Rattle.syscalls.specs.Vocabulary.{CallsOnce, LeavesTied, P, state_of}
pub use Rattle.fs_machine.specs.Vocabulary.{MatchOption, Phase, asks, hart_count, list_any, option_map}
pub use Rattle.atomic_programs.specs.Calls.{DidRun, DidStop, DidWait, Outcome as OutcomeOf, Refused as WasRefused, Started as WasStarted, WasIdle, WasStopped, all_asked, with_answer}
pub use Rattle.atomic_programs.specs.Plain.{MayOf, Plain, PlainHonest, PlainHonestStep, hart_step, plain_makes, plain_outcomes, plain_run}
pub use Rattle.calls_on_blocks.specs.Theory.{block_calls, block_code, child_of, has_file, reserved}
pub use Rattle.plain_tree.specs.declared.trace.TracedCall.{TracedCall}
pub use Rattle.syscalls.specs.Machines.{Running, RunningFits, TellsOf, heard_of, lacks_place_at}
unfoldable pub use Rattle.syscalls.specs.Machines.{running_of}
pub use Rattle.atomic_programs.specs.Tables.{PlaceFits, plain_at}
pub use Rattle.calls_on_blocks.specs.History.{first}
pub use Rattle.calls_on_blocks.specs.Marks.{at_point, marks_told}
pub use Rattle.fs_machine.specs.LogPart.{Fails, Passes}
pub use Rattle.atomic_programs.specs.Machines.{program_at}
pub use Rattle.atomic_programs.specs.Shown.{CameTo}
pub use Rattle.block_device.specs.Calls.{ComesByCalls}
pub use Rattle.calls_on_blocks.specs.Stops.{marks_at}
pub use Rattle.fs_machine.specs.Premises.{IsElsewhere, JoinWaits}
unfoldable pub use Rattle.fs_machine.specs.Premises.{Honest}
pub use Rattle.fs_machine.specs.Steps.{kind_of}
pub use Rattle.image_tree.specs.Damage.{fault_count_of, faults_with}
pub use Rattle.image_tree.specs.Images.{JudgesFault}
pub use Rattle.image_tree.specs.Freeing.{AreFreed, AreNamed}
pub use Rattle.image_tree.specs.declared.fault.MountFault.{MountFault}
pub use Rattle.image_tree.specs.declared.fault.MountFault.TheVariants.{DeviceFault}
pub use Rattle.inode_parts.specs.Sizes.{IsSized}
pub use Rattle.path_walk.specs.declared.asks.Heard.{Heard}
pub use Rattle.syscalls.specs.Places.{HasBegun}
pub use Rattle.inodes_on_blocks.specs.Below.{disk_of}
pub use Rattle.inodes_on_blocks.specs.OnBlocks.{is_joined}
pub use Rattle.inodes_on_blocks.specs.Seen.{IsRecoveredSo}
pub use Rattle.plain_tree.specs.Explains.{ends_at}
pub use Rattle.plain_tree.specs.Steps.{is_nothing}
pub use Rattle.std.specs.Option.{is_some}
pub use Rattle.std.specs.Vec.{vec_capacity}
pub use Rattle.fs_layout.specs.declared.superblock.Super.{Super}
pub use Rattle.fs_machine.specs.declared.files.OpenFile.{OpenFile}
pub use Rattle.fs_machine.specs.declared.kind.Kind.{Kind}
pub use Rattle.fs_machine.specs.declared.shared.Core.{Core}
pub use Rattle.group_log.specs.declared.marks.Marks.{Marks}
pub use Rattle.group_log.specs.declared.phase.Phase.TheVariants.{Halted, Installing, Open, Staging}
pub use Rattle.plain_tree.specs.declared.answer.Reply.{Reply}
pub use Rattle.plain_tree.specs.declared.call.Call.{Call}
pub use Rattle.plain_tree.specs.declared.call.Call.TheVariants.{Chdir, Close, Dup, Fstat, Inherit, Link, Mkdir, Open as OpenCall, Read, Unlink, Write}
pub use Rattle.plain_tree.specs.declared.trace.Placed.{Placed}
pub use Rattle.plain_tree.specs.declared.trace.Trace.{Trace}

-- What the crates below call things: the words that this crate's definitions and contracts use.
pub use Rattle.inodes_on_blocks.specs.Vocabulary.{Answer, Both, Commit, ExecResult, Do, IsGoodSuper, IsNamedPart, IsPlaced, IsWellFormed, LogPart, LowerLayer, Op, Outside, Ran, Ret, SeatState, Stops, TablesState, Tree, UpToLog, descriptor_count, file_named, hart_count, is_at, joined_count as joined, tree_in, tree_of}
unfoldable pub use Rattle.inodes_on_blocks.specs.Vocabulary.{any_below, put, sizes_of}
pub use Rattle.inode_machine.specs.Vocabulary.{AllHonest, Began, Begins, DidEnd, Event, Lawful, Refuses, Run, Start, State, Step, Theory, fresh, makes, next, run}
pub use Rattle.plain_tree.specs.Explains.{Chain}
pub use Rattle.fs_machine.specs.Vocabulary.{exec_result_in}
pub use Rattle.group_log.specs.Stories.{IsMarked, after_leave, after_write, no_marks}
pub use Rattle.group_log.specs.declared.marks.Marks.{Marks}
pub use Rattle.inode_machine.specs.MoveCalls.{Alone, HasOneHistory, MoveMachine, NoneClimbs}
pub use Rattle.inodes_on_blocks.specs.Mounted.{IsMountable, first_world, mounted}
pub use Rattle.atomic_programs.specs.Logic.{P}
pub use Rattle.atomic_programs.specs.Lowered.{Part, Starts, code_part, lowered_calls}
pub use Rattle.atomic_programs.specs.Plain.{Code, IsCode}
pub use Rattle.atomic_programs.specs.Prog.{or_else}
pub use Rattle.fs_machine.specs.LogPart.{is_open}
pub use Rattle.fs_machine.specs.Steps.{Leave}
unfoldable pub use Rattle.fs_machine.specs.Steps.{exec}
pub use Rattle.fs_machine.specs.declared.kind.Kind.{Kind}
pub use Rattle.group_log.specs.Phases.{is_point}
pub use Rattle.group_log.specs.Soundness.{IsSoundLog}
pub use Rattle.group_log.specs.declared.commit.Progress.TheVariants.{Ended, Failed, Wrote}
pub use Rattle.inode_machine.specs.Theory.{Busy, NoSuchHart, NotCovered, NotEmptyHart, PathTooLong, Refusal, ZeroInPath, are_bytes, asks_wrong, calls_that, has_zero, is_covered, path_limit}
pub use Rattle.inodes_on_blocks.specs.Below.{World as Blocks, exec as exec_blocks}
pub use Rattle.inodes_on_blocks.specs.Lowering.{below}
pub use Rattle.inodes_on_blocks.specs.Programs.{handlers}
pub use Rattle.tree_laws.specs.MoveLaws.{before}
pub use Rattle.fs_layout.specs.Recovered.{version_in}
pub use Rattle.fs_layout.specs.declared.superblock.Super.{Super}
pub use Rattle.group_log.specs.declared.commit.Progress.{Progress}
pub use Rattle.group_log.specs.declared.phase.Phase.{Phase}
pub use Rattle.group_log.specs.declared.phase.Phase.TheVariants.{Halted, Installing, Open, Staging}
pub use Rattle.image_versions.specs.declared.version.Version.{Version}
pub use Rattle.plain_tree.specs.declared.answer.Reply.{Reply}
pub use Rattle.plain_tree.specs.declared.call.Call.{Call}
pub use Rattle.plain_tree.specs.declared.call.Call.TheVariants.{Chdir, Close, Dup, Fstat, Inherit, Link, Mkdir, Open as OpenCall, Read, Unlink, Write}
pub use Rattle.plain_tree.specs.declared.trace.Placed.{Placed}

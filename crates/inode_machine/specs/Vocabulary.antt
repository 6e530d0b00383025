-- What the crates below call things: the words that this crate's definitions and contracts use.
pub use Rattle.tree_laws.specs.Vocabulary.{Explains, Name, Other, Replied, Shown, Started as Begun, Tree, TreeData, all_slots, call_climbs, closed, creates, descriptor_count, dot, dotdot, drop_hold, elements, fresh as fresh_tree, hart_count, is_directory, is_live, lowest, makes_node, no_calls, parent, path_of, resolve, root, start_of, trace_of, tree_of, Chain, answer_with, effect_with, refusal_with}
unfoldable pub use Rattle.tree_laws.specs.Vocabulary.{any_used, look, put}
pub use Rattle.plain_tree.specs.declared.answer.Cause.{Cause}
pub use Rattle.atomic_programs.specs.Calls.{AllHonest, Began, Begins, EventOutcome, DidEnd, DidRun, DidStop, DidWait, Event, FinishedCall, Lawful, Outcome, Refused, Refuses, Run, Start, Started, State, Step, Theory, WasIdle, WasStopped, fresh, makes, next, outcomes, run}
pub use Rattle.atomic_programs.specs.Prog.{ExecResult, Do, Prog, Ran, Ret, Stops, Waits, unmarked}
pub use Rattle.plain_tree.specs.declared.node.NodeKind.TheVariants.{Device, Directory, File}
pub use Rattle.tree_laws.specs.WellFormed.{IsWellFormed}
unfoldable pub use Rattle.tree_laws.specs.WellFormed.{one_if, sum_below}
pub use Rattle.plain_tree.specs.declared.answer.Full.TheVariants.{Blocks, Descriptors, Directory as DirectorySlots, DiskInodes, MemInodes, OpenFiles}
pub use Rattle.tree_laws.specs.Moves.{Deed, IsNext, IsWholeCall, Move, Stage, Step as MoveStep, PlaysStep, Walk, after, begins, fail}
pub use Rattle.tree_laws.specs.Moves.Move.{Begin, Look, Own, GiveUpWalk}
pub use Rattle.plain_tree.specs.Tree.{hold_names, is_absolute, slots_of}
unfoldable pub use Rattle.plain_tree.specs.Tree.{any_below, same_name, settle}
pub use Rattle.plain_tree.specs.Widths.{count_limit, piece_len, root_device}
pub use Rattle.plain_tree.specs.declared.answer.Cause.TheVariants.{BadDescriptor, BadMode, DotName, Exists, IsDirectory, NoDriver, NoEntry, NotDirectory, NotEmpty, TooManyLinks}
pub use Rattle.atomic_programs.specs.Logic.{Machine}
pub use Rattle.plain_tree.specs.Calls.{piece, piece_count}
pub use Rattle.plain_tree.specs.Steps.{IsInPlace, IsLeastUnused, IsNewNode, emptied, empty_it, has, has_driver, has_room, holds_raised, is_file, is_used, new_directory, no_driver, node_or, opens_one, read_write, with_nodes, write_only, written_kind}
unfoldable pub use Rattle.plain_tree.specs.Steps.{cleared, first_free}
pub use Rattle.plain_tree.specs.declared.answer.NodeType.{NodeType}
pub use Rattle.plain_tree.specs.declared.node.NodeKind.{NodeKind}
pub use Rattle.atomic_programs.specs.Explained.{IsExplained}
pub use Rattle.plain_tree.specs.HartRow.{Key, Row, key_names, row_of}
pub use Rattle.plain_tree.specs.declared.answer.Full.{Full}
pub use Rattle.plain_tree.specs.declared.answer.Stat.{Stat}
pub use Rattle.plain_tree.specs.declared.step.StepAnswer.TheVariants.{Bytes, Done, Failed, Fd as NewFd, Full as NoRoom, Opened, Stat as Status}
pub use Rattle.tree_laws.specs.History.{History, passes, starts}
pub use Rattle.tree_laws.specs.History.HartStanding.{Free}
pub use Rattle.tree_laws.specs.Runs.{finishes, moves_on}
pub use Rattle.plain_tree.specs.declared.answer.Reply.{Reply}
pub use Rattle.plain_tree.specs.declared.call.Call.{Call}
pub use Rattle.plain_tree.specs.declared.call.Call.TheVariants.{Chdir, Close, Dup, Fstat, Inherit, Link, Mkdir, Open, Read, Unlink, Write}
pub use Rattle.plain_tree.specs.declared.node.Node.{Node}
pub use Rattle.plain_tree.specs.declared.node.Slot.{Slot as DirectorySlot}
pub use Rattle.plain_tree.specs.declared.step.Action.{Action}
pub use Rattle.plain_tree.specs.declared.step.Action.TheVariants.{Bump, Chdir as ChdirStep, Close as CloseStep, Dup as DupStep, Enter, Find, Fstat as FstatStep, Inherit as InheritStep, Mkdir as MkdirStep, Open as OpenStep, Read as ReadStep, Truncate, Unbump, Unlink as UnlinkStep, WritePart}
pub use Rattle.plain_tree.specs.declared.step.StepAnswer.{StepAnswer}
pub use Rattle.plain_tree.specs.declared.trace.Placed.{Placed}
pub use Rattle.plain_tree.specs.declared.tree.Hold.{Hold}
pub use Rattle.plain_tree.specs.declared.tree.OpenFile.{OpenFile}
pub use Rattle.image_versions.specs.Versions.{name_len_of}
pub use Rattle.plain_tree.specs.Steps.{content, refusal, size_of, write_kind, entries}

-- What the crates below call things: the words that this crate's definitions and contracts use.
pub use Rattle.inode_parts.specs.Vocabulary.{IsCall, P, Version, nothing, program}
pub use Rattle.fs_machine.specs.Vocabulary.{Still, stepped_at}
pub use Rattle.fs_machine.specs.Steps.{State, state_of}
pub use Rattle.atomic_programs.specs.Machines.{RestOrResult}
pub use Rattle.atomic_programs.specs.declared.machines.SteppedInPlace.TheVariants.{Done, Ran, Stopped, Waits}
pub use Rattle.fs_machine.specs.Hands.{HandFits}
pub use Rattle.fs_machine.specs.Machines.{Answers, CallsOnce, Moves}
pub use Rattle.fs_machine.specs.Tied.{LeavesTied}
pub use Rattle.fs_machine.specs.declared.control.Machine.{Machine}
pub use Rattle.fs_machine.specs.declared.kind.Kind.{Kind}
pub use Rattle.fs_machine.specs.declared.shared.Core.{Core}
pub use Rattle.fs_machine.specs.Controls.{TellsBy}
pub use Rattle.inode_parts.specs.Calls.{LoweredReady, RunsByParts, lowered_left, path_of}
pub use Rattle.inode_parts.specs.Leaving.{heard_if}
pub use Rattle.inode_parts.specs.Telling.{BeginsAsking, LoweredTells, lacks_place}
pub use Rattle.inode_parts.specs.Expecting.{RunsAlone}
pub use Rattle.inode_parts.specs.Parts.{lowered}
pub use Rattle.inode_parts.specs.declared.lowered.Lowered.{Lowered}
pub use Rattle.atomic_programs.specs.declared.machines.SteppedInPlace.{SteppedInPlace}
pub use Rattle.fs_layout.specs.declared.superblock.Super.{Super}
pub use Rattle.path_walk.specs.declared.asks.Heard.{Heard}
pub use Rattle.plain_tree.specs.declared.answer.Reply.{Reply}
pub use Rattle.plain_tree.specs.declared.call.Call.{Call}

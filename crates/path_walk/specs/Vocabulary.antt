-- What the crates below call things: the words that this crate's definitions and contracts use.
pub use Rattle.inode_machine.specs.Vocabulary.{Do, Name, Ret, is_absolute, piece, unmarked}
pub use Rattle.plain_tree.specs.Tree.{elements}
pub use Rattle.inode_machine.specs.Parts.{P, leave_directory, looks_or_quits, see_parent, start, stopped, walk, walk_parent, walk_step, with_last}
pub use Rattle.std.specs.Option.{option_map}
pub use Rattle.inode_machine.specs.Inodes.{AtName, face_or, is_directory_face, is_live_face}
pub use Rattle.inode_machine.specs.Opening.{file_for}
pub use Rattle.inode_machine.specs.World.{Answer, Op}
pub use Rattle.inode_machine.specs.World.Op.{UnlockInode, Take, WalkDown}
pub use Rattle.plain_tree.specs.declared.answer.Answer.{Answer as CallAnswer}
pub use Rattle.std.specs.List.{list_all}
pub use Rattle.plain_tree.specs.declared.answer.Cause.{Cause}
pub use Rattle.plain_tree.specs.declared.answer.Cause.TheVariants.{BadDescriptor}
pub use Rattle.plain_tree.specs.declared.answer.Reply.{Reply}
pub use Rattle.plain_tree.specs.declared.call.Call.{Call}
pub use Rattle.plain_tree.specs.declared.step.Action.{Action}
pub use Rattle.plain_tree.specs.Code.{with_element}

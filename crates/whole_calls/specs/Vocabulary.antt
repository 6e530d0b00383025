-- What the crates below call things: the words that this crate's definitions and contracts use.
pub use Rattle.path_walk.specs.Vocabulary.{Do, UnlockInode, Name, P, Ret, Take, elements, face_or, file_for, piece, stopped, unmarked}
pub use Rattle.inode_machine.specs.Vocabulary.{creates, dot, dotdot, has, piece_count, piece_len}
unfoldable pub use Rattle.inode_machine.specs.Vocabulary.{same_name}
pub use Rattle.path_walk.specs.Asks.{IsNamed, IsNamedInTwo, asks, checked_in, claimed_of, count_in, entered_in, entered_of, face_of, hears, joined_of, loan_of, mark_at, marked_as, op_in, reply_to, sight_of, type_of, stepped, wrote_of}
pub use Rattle.inode_machine.specs.Parts.{done, drop, failed, free_all, free_listed, full, give_up, mends_if_full, own_step, say, tail}
pub use Rattle.path_walk.specs.Elements.{name_in, IsElement}
pub use Rattle.path_walk.specs.Walks.{After, Stands, StandsAt, most_left, most_walked, walk_of, walked_to}
pub use Rattle.path_walk.specs.declared.asks.Heard.{Heard}
pub use Rattle.inode_machine.specs.World.Op.{Claim, Empty, Enter, Fill, Forget, Free, Install, Join, JoinFile, Leave, Lend, Release, SetDirectory, Store, Up, WriteFile}
pub use Rattle.inode_machine.specs.Inodes.{AtNothing, Face, OfDirectory, OfFile, InodeType, is_directory_type, open_refusal, stat_of_face}
pub use Rattle.path_walk.specs.declared.asks.Ask.{Ask}
pub use Rattle.inode_machine.specs.Descriptors.{checked_reply, close_program, dup_program, joined_on, read_on, read_program, refused_to, stat_program, write_from, write_piece, write_program, write_reply, writes, wrote_on}
pub use Rattle.inode_machine.specs.Moving.{chdir_at, chdir_program, inherit_end, inherit_program, lend_from, lend_on, lends, lent_directory}
pub use Rattle.inode_machine.specs.Naming.{bump_refused, enters, link_at, link_found, link_in, link_name, link_program, link_raise, lower, mkdir_in, mkdir_on, mkdir_other, mkdir_program, mkdir_refused, mkdir_with, name_directory, named_on, unlink_found, unlink_program}
pub use Rattle.inode_machine.specs.Opening.{create_found, create_in, empties, entered_file, installed_on, installs, make_on, make_other, make_with, mends_unless_new, open_at, open_end, open_face, open_made, open_program, take_descriptor, truncates, unmake}
pub use Rattle.inode_machine.specs.World.{LocksIt, Mark, Orphans}
pub use Rattle.path_walk.specs.declared.elements.Element.{Element}
pub use Rattle.path_walk.specs.declared.walk.Walk.{Walk}
pub use Rattle.inode_machine.specs.Programs.{program}
pub use Rattle.inode_machine.specs.World.Mark.{Frees}
pub use Rattle.path_walk.specs.declared.walk.Goal.{Goal}
pub use Rattle.plain_tree.specs.declared.answer.Answer.{Answer as CallAnswer}
pub use Rattle.plain_tree.specs.declared.answer.Cause.TheVariants.{IsDirectory, NoEntry}
pub use Rattle.plain_tree.specs.declared.answer.Full.TheVariants.{Blocks, MemInodes}
pub use Rattle.plain_tree.specs.declared.answer.Reply.{Reply}
pub use Rattle.plain_tree.specs.declared.call.Call.{Call}
pub use Rattle.plain_tree.specs.declared.step.Action.{Action}

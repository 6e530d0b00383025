-- What the crates below call things: the words that this crate's definitions and contracts use.
pub use Rattle.plain_tree.specs.Tree.{Name, Tree, climbs, dotdot, live_directory, start_of, tree_of}
unfoldable pub use Rattle.plain_tree.specs.Tree.{first_slot, look, same_name, settle}
pub use Rattle.plain_tree.specs.Steps.{IsInPlace, IsNewNode, empty_it, file_at, has, has_descriptors, has_room, holds_raised, is_nothing, is_open_file, lowest, makes_node, path_of}
unfoldable pub use Rattle.plain_tree.specs.Steps.{any_used, place_of}
pub use Rattle.plain_tree.specs.declared.call.Call.{Call}
pub use Rattle.path_walk.specs.declared.asks.Heard.{Heard}
pub use Rattle.path_walk.specs.declared.asks.Mark.{Mark}
pub use Rattle.plain_tree.specs.Calls.{Act, call_climbs, cause_of, counted, in_buffer, linked, piece, piece_count, plain_answer}
unfoldable pub use Rattle.plain_tree.specs.Calls.{Follows, had_room, next_of, reply_of}
pub use Rattle.plain_tree.specs.Explains.{IsWritten}
unfoldable pub use Rattle.plain_tree.specs.Explains.{AllBelong, Rises, acts_of}
pub use Rattle.plain_tree.specs.Widths.{hart_count}
pub use Rattle.plain_tree.specs.declared.answer.Answer.{Answer}
pub use Rattle.plain_tree.specs.declared.answer.Reply.{Reply}
pub use Rattle.plain_tree.specs.declared.step.Action.{Action}
pub use Rattle.plain_tree.specs.declared.step.StepAnswer.{StepAnswer}
pub use Rattle.plain_tree.specs.declared.trace.Placed.{Placed}
pub use Rattle.std.specs.Option.{option_map}
pub use Rattle.path_walk.specs.Asks.{IsSought, IsSoughtInOne, asks, count_in, face_of, hears, mark_at, mark_in, marked_as, piece_of, query_in, reply_to, sight_in, sight_of, type_of}
pub use Rattle.plain_tree.specs.Checked.{is_full}
pub use Rattle.plain_tree.specs.TreeData.{TreeData}
pub use Rattle.plain_tree.specs.declared.call.Call.TheVariants.{Chdir, Close, Dup, Fstat, Inherit, Link, Mkdir, Open, Read, Unlink, Write}
pub use Rattle.plain_tree.specs.declared.trace.TracedCall.{TracedCall}
pub use Rattle.tree_laws.specs.History.{HartStanding, History, entry_of}
pub use Rattle.whole_calls.specs.Wholes.{WholeFits, action_in, call_in, text_in, whole_of}
pub use Rattle.whole_calls.specs.declared.whole.Whole.{Whole}
pub use Rattle.atomic_programs.specs.Prog.{Ret}
pub use Rattle.inode_machine.specs.Inodes.{empty_in, found_in, is_empty_kind, type_of_kind}
pub use Rattle.inode_machine.specs.Inodes.{face_of as face_seen, seen_in}
pub use Rattle.inode_machine.specs.Kept.{stage_by, told_by_move}
pub use Rattle.inode_machine.specs.Making.{MayMake, OpensLeast}
pub use Rattle.inode_machine.specs.Programs.{program}
pub use Rattle.inode_machine.specs.World.{Op}
pub use Rattle.inode_machine.specs.World.Mark.{Makes}
pub use Rattle.inode_machine.specs.World.Op.{LockFile, LockOpen, StatFile, Take}
pub use Rattle.path_walk.specs.Elements.{IsElement, IsInOne, name_in}
pub use Rattle.path_walk.specs.declared.asks.Query.{Query}
pub use Rattle.path_walk.specs.declared.asks.Sight.{Sight}
pub use Rattle.plain_tree.specs.Progress.{next_where}
pub use Rattle.plain_tree.specs.declared.answer.Answer.TheVariants.{Full as WasFull}
pub use Rattle.plain_tree.specs.declared.answer.Cause.{Cause}
pub use Rattle.plain_tree.specs.declared.node.NodeKind.{NodeKind}
pub use Rattle.plain_tree.specs.declared.node.NodeKind.TheVariants.{Device, Directory, File}
pub use Rattle.plain_tree.specs.declared.node.Node.{Node}
pub use Rattle.plain_tree.specs.declared.step.Action.TheVariants.{Bump as BumpStep, Chdir as ChdirStep, Close as CloseStep, Dup as DupStep, Enter as EnterStep, Find as FindStep, Fstat as FstatStep, Inherit as InheritStep, Mkdir as MkdirStep, Open as OpenStep, Read as ReadStep, Truncate as TruncateStep, Unbump as UnbumpStep, Unlink as UnlinkStep, WritePart as WritePartStep}
pub use Rattle.plain_tree.specs.declared.step.StepAnswer.TheVariants.{Done, Failed, Opened}
pub use Rattle.plain_tree.specs.declared.step.TreeStep.{TreeStep}
pub use Rattle.plain_tree.specs.declared.trace.Trace.{Trace}
pub use Rattle.std.specs.List.{list_any}
pub use Rattle.std.specs.List.Sorted.{IsNonDecreasingBy}
pub use Rattle.tree_laws.specs.History.HartStanding.{Busy, Free}
pub use Rattle.tree_laws.specs.Moves.{Deed, Move, Stage}
pub use Rattle.tree_laws.specs.Moves.Move.{Begin, Look, Own, GiveUpWalk}
pub use Rattle.tree_laws.specs.Runs.{lost_of, moves_on}
unfoldable pub use Rattle.tree_laws.specs.Runs.{all_fall}
pub use Rattle.image_versions.specs.declared.version.Version.{Version}
pub use Rattle.image_versions.specs.Versions.{dirent_len_of}
pub use Rattle.plain_tree.specs.Tree.{elements, parent, resolve}
pub use Rattle.plain_tree.specs.Steps.{refusal, size_of}
pub use Rattle.plain_tree.specs.Explains.{Explains}
unfoldable pub use Rattle.plain_tree.specs.Explains.{Chain}
pub use Rattle.plain_tree.specs.Checked.{Leads}
pub use Rattle.plain_tree.specs.Applied.{IsApplied, IsAppliedWith, IsBadChoice, IsBadChoiceWith}
pub use Rattle.plain_tree.specs.Code.{with_element}

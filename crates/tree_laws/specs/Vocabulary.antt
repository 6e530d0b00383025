-- What the crates below call things: the words that this crate's definitions and contracts use.
pub use Rattle.plain_tree.specs.Tree.{Name, Tree, all_slots, and_then, dot, dotdot, is_directory, is_live, live_directory, start_of, tree_of}
unfoldable pub use Rattle.plain_tree.specs.Tree.{climbs_in, first_slot, follow, is_named, look, put}
pub use Rattle.plain_tree.specs.Widths.{descriptor_count, hart_count, root}
pub use Rattle.plain_tree.specs.declared.call.Call.{Call}
pub use Rattle.plain_tree.specs.declared.step.Action.{Action}
pub use Rattle.plain_tree.specs.Calls.{Act, call_climbs}
unfoldable pub use Rattle.plain_tree.specs.Calls.{had_room, next_of, reply_of}
pub use Rattle.plain_tree.specs.declared.answer.Reply.{Reply}
pub use Rattle.plain_tree.specs.declared.step.Action.TheVariants.{Bump, Chdir, Close, Dup, Enter, Find, Fstat, Inherit, Mkdir, Open, Read, Truncate, Unbump, Unlink, WritePart}
pub use Rattle.plain_tree.specs.declared.step.StepAnswer.{StepAnswer}
pub use Rattle.plain_tree.specs.Steps.{IsInPlace, MayChoose, at_dir, at_hold, closed, creates, drop_hold, enter_hold, file_at, follows_path, held, lowered, lowest, made, makes_node, moved, opened, opened_at, opened_new, path_of, raise_hold, raised, removed, truncated, wrote}
unfoldable pub use Rattle.plain_tree.specs.Steps.{any_used}
pub use Rattle.plain_tree.specs.declared.trace.Placed.{Placed}
pub use Rattle.plain_tree.specs.Explains.Shown.{Other, Replied, Started}
pub use Rattle.plain_tree.specs.declared.answer.Cause.TheVariants.{NoEntry}
pub use Rattle.plain_tree.specs.declared.step.StepAnswer.TheVariants.{Bytes, Done, Failed, Fd as NewFd, Opened, Stat as Status}
pub use Rattle.plain_tree.specs.Explains.{IsReached, Shown, no_calls, noted, trace_of}
unfoldable pub use Rattle.plain_tree.specs.Explains.{acts_of}
pub use Rattle.plain_tree.specs.TreeData.{TreeData}
pub use Rattle.plain_tree.specs.declared.answer.Answer.{Answer}
pub use Rattle.plain_tree.specs.declared.answer.Answer.TheVariants.{Count, Done as Finished, Failed as Refused, Fd, Stat as Stated}
pub use Rattle.plain_tree.specs.declared.answer.NodeType.TheVariants.{File as AFile}
pub use Rattle.plain_tree.specs.declared.call.Call.TheVariants.{Chdir as ChdirCall, Close as CloseCall, Dup as DupCall, Fstat as FstatCall, Inherit as InheritCall, Link, Mkdir as MkdirCall, Open as OpenCall, Read as ReadCall, Unlink as UnlinkCall, Write}
pub use Rattle.plain_tree.specs.declared.node.Node.{Node}
pub use Rattle.plain_tree.specs.declared.node.Slot.{Slot}
pub use Rattle.plain_tree.specs.declared.trace.Trace.{Trace}
pub use Rattle.plain_tree.specs.declared.tree.Hold.{Hold}
pub use Rattle.plain_tree.specs.declared.tree.OpenFile.{OpenFile}
pub use Rattle.plain_tree.specs.Tree.{elements, parent, resolve}
pub use Rattle.plain_tree.specs.Steps.{StepWith, part, stat_answer, answer_with, effect_with, refusal_with}
pub use Rattle.plain_tree.specs.Fresh.{fresh}
pub use Rattle.plain_tree.specs.Explains.{Explains, Chain}

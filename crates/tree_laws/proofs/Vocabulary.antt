-- What this crate's proofs speak of: its own definitions, and what the crates below and the library call things.
pub use Rattle.plain_tree.proofs.Vocabulary.{Act, Belongs, Bool, IsInPlace, IsLeastUnused, IsNewNode, IsReached, List, MayChoose, Name, None, Option, Some, Tree, TreeData, [], act_of as act_in, all_slots, and_then, ap, append-nil, append_assoc, arith, at_dir, at_hold, chdir_refusal, child_refusal, closed, creates, descriptor_count, dot, dotdot, drop, drop_hold, emptied, empty_it, enter_hold, enter_refusal, entered, false, fd_names, fd_refusal, file_at, file_names, find_refusal, fresh_hart, hart_count, has, has_room, held, hold_names, if_done, if_failed, if◌then◌else◌, inl, inr, is_absent, is_directory, is_file, is_live, is_nothing, is_open_file, length, live_directory, lowered, lowest, made, makes_node, map, mkdir_refusal, moved, name_taken, nat_lt, nat_tests, new_directory, new_file, next_piece, node_at, node_or, not, not_empty, once, opened_at, opened_in, opened_new, opens_one, or_else, path_of, piece, piece_count, raise_hold, raised, read_write, refl, refused, removed, removed_child, replicate, resting, root, slots_of, subst, suc, sym, to_truncate, tree_of, true, truncated, unlink_refusal, with_file, with_nodes, write_only, written, written_kind, wrote, zero, ℕ, ◌&&◌, ◌++◌, ◌+◌, ◌-◌, ◌<◌, ◌==◌, ◌||◌, ◌∙◌, ◌∷◌, ◌≡◌, ◌≢◌, ◌≤◌, ◌⊎◌}
unfoldable pub use Rattle.plain_tree.proofs.Vocabulary.{AllBelong, Chain as ChainBy, Follows, Rises, acts_of, answer_with as answer_by, any_below, any_used, cleared, effect_with as effect_by, entries as entries_by, file_in, first_cause, first_free, first_slot, follow, had_room, has_fd, is_named, last_cause, look, lowest_from, next_of, pieces, place_of, put, refusal_with as refusal_by, same_name, settle}
pub use Rattle.tree_laws.specs.Vocabulary.{Explains, NoEntry, Other, Replied, Reply, Shown, Started, call_climbs, follows_path, fresh, noted, start_of, trace_of}
unfoldable pub use Rattle.tree_laws.specs.Vocabulary.{climbs_in, reply_of}
pub use Rattle.tree_laws.specs.WellFormed.{Folders, IsForest, IsInOrder, IsThere, IsWellFormed, Slots, folder, folders_of, has_up, links_in, links_of, past, raised_at, up_in}
unfoldable pub use Rattle.tree_laws.specs.WellFormed.{NamesOnce, children, count_in, mentions, one_if, raises, sum_below}
pub use Rattle.tree_laws.specs.Moves.{Acts, StartLeadsTo, Deed, GoesTo, IsNext, IsPlayed, LookupLeadsTo, MayEnd, Move, Plays, Stage, Step as MoveStep, Walk, after, begins, fail, told_by, walks_at}
pub use Rattle.tree_laws.specs.Runs.{BeginsNext, Event, Happens, IsStartBy, MayReply, PlaysAny, World, climbing, falls, finishes, lost, lost_of, moves_on, opened, shown_of, stepped, unless}
unfoldable pub use Rattle.tree_laws.specs.Runs.{Alone, NoneClimbs, Runs, all_fall}
pub use Rattle.plain_tree.specs.Tree.{climbs, is_absolute}
unfoldable pub use Rattle.plain_tree.specs.Tree.{parent_from, parent_of}
pub use Rattle.tree_laws.specs.History.{HartStanding, History, entry_of, passes, replies, starts, tells, tells_any, writes, writes_any}
pub use Rattle.tree_laws.specs.History.HartStanding.{Busy, Free}
pub use Rattle.tree_laws.specs.Runs.Event.{Nothing, Starts, Steps}
pub use Rattle.tree_laws.specs.Leaves.{Frame, IsFound, IsNobodys, LeavesFinding, names_change}
pub use Rattle.plain_tree.specs.Explains.{IsInTime, IsWritten, ends_at}
unfoldable pub use Rattle.plain_tree.specs.Explains.{trace_from}
pub use Rattle.plain_tree.specs.Steps.{holds_raised, is_used}
pub use Rattle.plain_tree.specs.declared.trace.TracedCall.{TracedCall}
pub use Rattle.std.proofs.Common.{slice_get, slice_index_or, ◌*◌}
pub use Rattle.tree_laws.specs.Moves.Move.{Begin, Look, Own, GiveUpWalk}
pub use Rattle.plain_tree.specs.Calls.{IsWhole}
pub use Rattle.tree_laws.specs.Actions.{ActionsAreTold}
pub use Rattle.tree_laws.specs.Examples.{ChdirFinishes, CloseFinishes, DupFinishes, FstatFinishes, InheritFinishes, LinkFinishes, MkdirFinishes, OpenFinishes, ReadFinishes, UnlinkFinishes, WalkerFails, WalkerFailsAtAFile, WalkerStaysFailed, WriteFinishes, asks, changes, closes, doubles, inherits, links, made_again, makes, opens_a, opens_below_a, reads, removed_under, unlinks}
pub use Rattle.tree_laws.specs.MoveLaws.{Tells, before, of_call}
unfoldable pub use Rattle.tree_laws.specs.MoveLaws.{in_turn}
pub use Rattle.plain_tree.specs.declared.answer.Cause.{Cause}
pub use Rattle.plain_tree.specs.declared.answer.Cause.TheVariants.{DotName}
pub use Rattle.plain_tree.specs.declared.call.Call.{Call}
pub use Rattle.plain_tree.specs.declared.call.Call.TheVariants.{Chdir as ChdirCall, Close as CloseCall, Dup as DupCall, Fstat as FstatCall, Inherit as InheritCall, Link as LinkCall, Mkdir as MkdirCall, Open as OpenCall, Read as ReadCall, Unlink as UnlinkCall, Write as WriteCall}
pub use Rattle.plain_tree.specs.declared.node.NodeKind.{NodeKind}
pub use Rattle.plain_tree.specs.declared.node.NodeKind.TheVariants.{Device, Directory, File}
pub use Rattle.plain_tree.specs.declared.node.Node.{Node}
pub use Rattle.plain_tree.specs.declared.node.Slot.{Slot}
pub use Rattle.plain_tree.specs.declared.step.Action.{Action}
pub use Rattle.plain_tree.specs.declared.step.Action.TheVariants.{Bump, Chdir, Close, Dup, Enter, Find, Fstat, Inherit, Mkdir, Open, Read, Truncate, Unbump, Unlink, WritePart}
pub use Rattle.plain_tree.specs.declared.step.StepAnswer.{StepAnswer}
pub use Rattle.plain_tree.specs.declared.step.StepAnswer.TheVariants.{Bytes, Done, Failed, Fd as NewFd, Full as NoRoom, Opened, Stat as Status}
pub use Rattle.plain_tree.specs.declared.trace.Placed.{Placed}
pub use Rattle.plain_tree.specs.declared.trace.Trace.{Trace}
pub use Rattle.plain_tree.specs.declared.tree.Hart.{Hart}
pub use Rattle.plain_tree.specs.declared.tree.Hold.{Hold}
pub use Rattle.plain_tree.specs.declared.tree.OpenFile.{OpenFile}
pub use Rattle.plain_tree.specs.Steps.{Step, StepWith, answer_with, effect_with, entries, refusal_with}
pub use Rattle.plain_tree.specs.Tree.{elements, parent, resolve}
pub use Rattle.plain_tree.specs.Explains.{Chain}
pub use Rattle.plain_tree.specs.Fresh.{fresh_root, fresh_slots}

-- What this crate's proofs speak of: its own definitions, and what the crates below and the library call things.
pub use Rattle.std.proofs.Common.{Bool, Decides, Err, IsTrue, List, MatchResult, None, Ok, Option, Result, Some, [], add-one, ap, append-nil, append_assoc, arith, cond, drop, drop-cons, false, filter, get_or, get_or-set_other, get_or-set_same, if◌then◌else◌, inl, inr, length, map, nat_eq, nat_lt, not, refl, remove, replicate, subst, suc, sym, take, true, zero, ℕ, ◌&&◌, ◌++◌, ◌+◌, ◌-◌, ◌<◌, ◌==◌, ◌^◌, ◌||◌, ◌↔◌, ◌∙◌, ◌∷◌, ◌≡◌, ◌≢◌, ◌≤◌, ◌⊎◌}
pub use Rattle.std.proofs.lemmas.Bool.Decides.{nat_tests}
pub use Rattle.image_versions.specs.declared.version.Version.{Version}
pub use Rattle.image_versions.specs.Versions.{dirent_len_of, dirents_per_block_of, name_len_of}
pub use Rattle.plain_tree.specs.Tree.{Name, Tree, all_slots, and_then, climbs, dot, dotdot, elements, fd_names, file_names, hart_at, hold_names, is_directory, is_empty, is_live, live_directory, parent, resolve, resting, slots_of, tree_of}
unfoldable pub use Rattle.plain_tree.specs.Tree.{any_below, climbs_in, file_in, first_slot, follow, is_named, look, pieces, put, same_name, settle}
pub use Rattle.plain_tree.specs.declared.tree.OpenFile.{OpenFile}
pub use Rattle.plain_tree.specs.declared.step.StepAnswer.{StepAnswer}
pub use Rattle.std.proofs.lemmas.Bool.{cases_Bool, cases_eq}
pub use Rattle.plain_tree.specs.declared.node.Node.{Node}
pub use Rattle.plain_tree.specs.Steps.{IsInPlace, IsLeastUnused, IsNewNode, MayChoose, Step, StepWith, at_dir, at_hold, at_node, bump_refusal, chdir_refusal, child_refusal, closed, content, creates, drop_hold, emptied, empty_it, enter_hold, enter_refusal, entered, entry_bytes, fd_refusal, file_at, find_refusal, has, has_room, held, is_absent, is_file, is_nothing, is_open_file, lowered, lowest, made, makes_node, mkdir_refusal, moved, name_taken, new_directory, new_file, no_driver, node_at, node_or, not_empty, open_kind, open_new, open_old, open_there, opened, opened_at, opened_in, opened_new, opens_file, opens_one, or_else, part, path_of, raise_hold, raised, read_refusal, read_write, refusal, refused, removed, removed_child, stat_answer, stat_of, truncated, unlink_refusal, with_file, with_nodes, write_kind, write_only, write_refusal, written, written_kind, wrote}
unfoldable pub use Rattle.plain_tree.specs.Steps.{answer_with, any_used, cleared, effect_with, entries, first_free, has_fd, lowest_from, place_of, refusal_with}
pub use Rattle.plain_tree.specs.Widths.{count_limit, descriptor_count, hart_count, root}
pub use Rattle.plain_tree.specs.declared.step.Action.{Action}
pub use Rattle.plain_tree.specs.declared.step.StepAnswer.TheVariants.{Bytes, Done, Failed, Fd as NewFd, Full as NoRoom, Opened, Stat as Status}
pub use Rattle.std.proofs.lemmas.List.{drop_all, length_push, set-get_or, set_split, take-append-drop, take_all, take_more}
pub use Rattle.plain_tree.specs.declared.trace.Placed.{Placed}
pub use Rattle.plain_tree.specs.TreeData.{TreeData}
pub use Rattle.plain_tree.specs.declared.answer.Cause.{Cause}
pub use Rattle.plain_tree.specs.declared.step.Action.TheVariants.{Bump, Chdir, Close, Dup, Enter, Find, Fstat, Inherit, Mkdir, Open, Read, Truncate, Unbump, Unlink, WritePart}
pub use Rattle.plain_tree.specs.declared.step.TreeStep.{TreeStep}
pub use Rattle.plain_tree.specs.declared.tree.Hold.{Hold}
pub use Rattle.plain_tree.specs.declared.tree.OpenFileEntry.{OpenFileEntry}
pub use Rattle.std.proofs.Math.Path.{fun_ext}
pub use Rattle.plain_tree.specs.HartRow.{Key, key_at, key_is, key_names, key_of, row_names, row_of}
pub use Rattle.plain_tree.specs.declared.node.NodeKind.TheVariants.{Device, Directory, File}
pub use Rattle.plain_tree.specs.declared.node.Slot.{Slot}
pub use Rattle.std.proofs.Math.ListN.{get_or-eq_default, length-set, set}
pub use Rattle.plain_tree.specs.Applied.{IsApplied, IsAppliedAt, IsAppliedAtWith, IsBadChoice, Outcome, applied, in_place, out_of_place}
pub use Rattle.plain_tree.specs.Calls.{Act, cause_of, if_done, if_failed, next_link, next_open, next_piece, once, piece, piece_count, to_truncate}
unfoldable pub use Rattle.plain_tree.specs.Calls.{Follows, first_cause, had_room, last_cause, next_of}
pub use Rattle.plain_tree.specs.Code.{Advances, EndsWithin, HasFiles, IsEntryOf, IsOrphan, is_lost, lost_of, read_count, settled_below, with_element}
pub use Rattle.plain_tree.specs.Explains.{Belongs, IsNamedPart, IsReached, act_of}
unfoldable pub use Rattle.plain_tree.specs.Explains.{AllBelong, Chain, Rises, acts_of}
pub use Rattle.plain_tree.specs.declared.answer.Cause.TheVariants.{BadDescriptor, BadMode, DotName, IsDirectory, NotDirectory, TooManyLinks}
pub use Rattle.plain_tree.specs.declared.tree.Hart.{Hart}
pub use Rattle.plain_tree.specs.Checked.{Leads, LeadsOn, is_full}
pub use Rattle.plain_tree.specs.Fresh.{at_rest, fresh_hart}
pub use Rattle.plain_tree.specs.Laws.{AsksForWhatStays, Stays}
pub use Rattle.plain_tree.specs.Marks.{FindsMarked, IsClosed, IsNext, MarksAll, MarksReached, is_marked}
pub use Rattle.plain_tree.specs.Progress.{has_failed, is_done, link_next, next_at, next_where, only_next, open_next, progress_of, said, truncate_next}
unfoldable pub use Rattle.plain_tree.specs.Progress.{last_of}
pub use Rattle.plain_tree.specs.declared.answer.Full.TheVariants.{Descriptors}
pub use Rattle.plain_tree.specs.declared.call.Call.{Call}
pub use Rattle.plain_tree.specs.declared.call.Call.TheVariants.{Chdir as ChdirCall, Close as CloseCall, Dup as DupCall, Fstat as FstatCall, Inherit as InheritCall, Link, Mkdir as MkdirCall, Open as OpenCall, Read as ReadCall, Unlink as UnlinkCall, Write}
pub use Rattle.plain_tree.specs.declared.node.NodeKind.{NodeKind}
pub use Rattle.plain_tree.specs.declared.progress.Last.TheVariants.{Nothing}
pub use Rattle.plain_tree.specs.declared.progress.Progress.{Progress}
pub use Rattle.plain_tree.specs.declared.trace.Trace.{Trace}

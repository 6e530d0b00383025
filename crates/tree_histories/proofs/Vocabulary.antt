-- What this crate's proofs speak of: its own definitions, and what the crates below and the library call things.
pub use Rattle.tree_histories.specs.Vocabulary.{Version, empty_in, face_of, face_seen, sight_of, Act, Action, Begin, BumpStep as Bump, Busy, Call, Cause, Chdir, ChdirStep, Close, CloseStep, Done, Dup, DupStep, EnterStep as Enter, Explains, Failed, FindStep as Find, Free, Fstat, FstatStep, Deed, HartStanding, Heard, History, Inherit, InheritStep, IsApplied, IsBadChoice, IsElement, IsInOne, IsInPlace, IsNewNode, IsNonDecreasingBy, IsSought, IsSoughtInOne, IsWritten, Leads, Link, Look, Makes, Mark, Mkdir, MkdirStep, Move, Name, Node, Op, Open, OpenStep, Opened, Own, Placed, Query, GiveUpWalk, Read, ReadStep, Reply, Sight as Seen, Stage, StepAnswer, Trace, TracedCall, Tree, TreeData, TreeStep, TruncateStep as Truncate, UnbumpStep as Unbump, Unlink, UnlinkStep, Whole, Write, WritePartStep as WritePart, action_in, call_in, cause_of, climbs, dotdot, elements, empty_it, entry_of, found_in, hart_count, has, is_full, is_nothing, linked, live_directory, lost_of, makes_node, mark_in, name_in, next_where, option_map, parent, path_of, piece, piece_count, query_in, refusal, resolve, seen_in, stage_by, start_of, text_in, told_by_move, tree_of}
unfoldable pub use Rattle.tree_histories.specs.Vocabulary.{AllBelong, Chain, Follows, Rises, acts_of, all_fall, had_room, look, next_of, place_of, reply_of, same_name, settle}
pub use Rattle.plain_tree.proofs.Vocabulary.{Belongs, Bool, Err, List, MayChoose, None, Ok, Option, Outcome, Result, Some, [], act_of, add-one, ap, append_assoc, arith, cases_Bool, cases_eq, creates, drop, false, get_or, get_or-eq_default, if_done, if_failed, if◌then◌else◌, inl, inr, is_absent, length, length-set, length_push, nat_lt, nat_tests, next_link, next_open, next_piece, not, once, opened_at, opened_in, opened_new, refl, refused, replicate, root, subst, suc, sym, take, take-append-drop, take_all, take_more, to_truncate, true, zero, ℕ, ◌&&◌, ◌++◌, ◌+◌, ◌-◌, ◌<◌, ◌==◌, ◌^◌, ◌||◌, ◌∙◌, ◌∷◌, ◌≡◌, ◌≢◌, ◌≤◌, ◌⊎◌}
unfoldable pub use Rattle.plain_tree.proofs.Vocabulary.{answer_with, effect_with, first_cause, last_cause, put, refusal_with}
pub use Rattle.tree_histories.specs.declared.stand.Stand.{Stand}
pub use Rattle.std.specs.List.{Contains, slice_get}
pub use Rattle.tree_histories.specs.Keeping.{AllFit, StandsFit, HasHeard, HasStarted, HeardBy, HearsSo, IsNewCall, KeptTree, Under, capped, counted, hart_in, is_lost, nothing_kept, passed, stage_of, walk_under, walking, with_hart, with_walk, written, written_by}
pub use Rattle.tree_histories.specs.Searching.{AgreesWith, AreOfCalls, CallIsExplored, CanEnd, Fits, HasFound, IsAt, IsDead, IsDeadWith, IsEarliest, IsExplored, IsHopeless, IsKept, IsLimit, IsMade, IsOfCall, IsPlaced, IsSteppedOn, IsTimely, IsTried, IsUndone, NeedsNumber, Precedes, end_at, end_of, knows, most, steps_left}
unfoldable pub use Rattle.tree_histories.specs.Searching.{last_event, left}
pub use Rattle.tree_histories.specs.Stands.{after, first_of, is_told, link_from, next_from, open_from, opened_file, reply_at, stand_of, start, truncate_from, was_done, was_failed, write_from}
unfoldable pub use Rattle.tree_histories.specs.Stands.{stand_from}
pub use Rattle.std.proofs.lemmas.List.{append-nil, get_or-set_other, get_or-set_same, get_or_past, map_push}
pub use Rattle.plain_tree.specs.Explains.{IsInTime, ends_at}
pub use Rattle.std.proofs.Common.{IfOk, map, max, set, ◌/◌}
pub use Rattle.tree_histories.specs.Moving.{ActedOn, HaveFallen, IsActed, IsActedAlone, IsDeedOf, IsMoved, KeepsRest, MovesBy, NoneFalls, OnlyMoves, SameCalls, StaysFor, Tells, TellsMove, TellsOf, WereLost, makes_none, spoils, told_in, written_unless}
pub use Rattle.tree_histories.specs.Ordered.{IsDue, IsOrdered, StandsFrom}
pub use Rattle.tree_histories.specs.declared.ends.Due.{Due}
pub use Rattle.tree_histories.specs.declared.position.Position.{Position}
pub use Rattle.inode_machine.specs.Marks.{Made, act_all, act_answer, act_entered, acts, begun, look_made, looked, made_by, own_made}
pub use Rattle.std.proofs.Math.ListN.{get_or-append}
pub use Rattle.std.proofs.lemmas.Bool.{cases_lt}
pub use Rattle.std.proofs.lemmas.Option.{get_or_from_slice_get, slice_get-get_or, slice_get_cases, slice_get_past, slice_get_read, slice_get_within}
pub use Rattle.tree_histories.specs.Books.{IsBook, StandsAs, capped_entry}
pub use Rattle.tree_histories.specs.Hints.{hint_of, hints_of}
unfoldable pub use Rattle.tree_histories.specs.Hints.{hints_after}
pub use Rattle.tree_histories.specs.Walks.{IsNextWalk, IsWalk, LeadsBy, are_none, is_on_new, is_past_old, name_from, step_for, step_in, walk_of, walk_on}
pub use Rattle.tree_histories.specs.declared.standing.Walk.{Walk}
pub use Rattle.tree_laws.specs.History.{replies, starts, tells, tells_any, writes, writes_any}
pub use Rattle.tree_laws.specs.Moves.{fail}
pub use Rattle.inode_machine.specs.Kept.{nothing_yet}
pub use Rattle.inode_machine.specs.Making.{ActsSo, MayBegin, MayLook, MayLookOn, MayMake, OpensLeast}
pub use Rattle.path_walk.specs.Asks.{op_in}
pub use Rattle.path_walk.specs.declared.elements.Element.{Element}
pub use Rattle.plain_tree.proofs.TreeLemmas.{put_back, set_put}
pub use Rattle.plain_tree.specs.Calls.{IsWhole}
pub use Rattle.plain_tree.specs.Steps.{IsLeastUnused, opens_one}
pub use Rattle.plain_tree.specs.Tree.{is_absolute}
unfoldable pub use Rattle.plain_tree.specs.Tree.{climbs_in}
pub use Rattle.plain_tree.specs.declared.refused.NoMemory.{NoMemory}
pub use Rattle.std.proofs.Math.Seq.{get_or-append_seam}
pub use Rattle.std.proofs.lemmas.List.Elements.{Contains-push}
pub use Rattle.std.proofs.lemmas.List.Sorted.{Contains-permutation}
pub use Rattle.std.specs.List.Sorted.{IsPermutation}
pub use Rattle.tree_histories.specs.Sights.{FewSlotsIn, SeenFor, ShowsSo}
pub use Rattle.tree_histories.specs.declared.explore.Hint.{Hint}
pub use Rattle.tree_histories.specs.declared.explore.Tried.{Tried}
pub use Rattle.tree_histories.specs.declared.position.Placing.{Placing}
pub use Rattle.tree_laws.proofs.Lists.{map_length}
pub use Rattle.tree_laws.proofs.Maps.{and_true, either, eq_not, eq_self, put_other, put_same}
pub use Rattle.tree_laws.specs.Runs.{falls, lost, unless}
pub use Rattle.whole_calls.specs.Links.{link_action}
pub use Rattle.whole_calls.specs.Wholes.{WholeAsks, first_in, second_in}
pub use Rattle.plain_tree.specs.declared.step.StepAnswer.TheVariants.{Bytes, Fd as NewFd, Full as NoRoom, Stat as Status}
pub use Rattle.plain_tree.specs.Code.{with_name}
pub use Rattle.tree_histories.specs.declared.kept.Lead.{Lead}
pub use Rattle.plain_tree.specs.Applied.{IsAppliedAt, IsAppliedAtWith, IsAppliedWith, IsBadChoiceWith, IsRefusedWith, applied, applied_with, in_place, in_place_with}
pub use Rattle.plain_tree.specs.Steps.{Step}
pub use Rattle.plain_tree.proofs.LeadLemmas.{step_placed}
pub use Rattle.plain_tree.proofs.StepLaws.{applied_step, chain_one, step_one}

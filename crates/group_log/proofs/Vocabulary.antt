-- What this crate's proofs speak of: its own definitions, and what the crates below and the library call things.
pub use Rattle.buffer_cache.proofs.Vocabulary.{Bool, BufferState, Err, GuardState, IsGuardOf, IsHeld, IsPinned, IsSome, IsSound, KeepsHeld, KeepsOthers, List, MatchOption, None, Ok, Option, Result, SeatState, Some, [], ap, arith, as_new, block_at, block_at-set_other, block_at-set_same, cases_eq, cases_lt, change_first, change_to_end, cond, count_of, false, find, get_by, get_new, get_or, given_back, guard_of, has_block, holder_of, if◌then◌else◌, inl, inr, is_free, is_held_by, is_none, is_number, is_pinned, is_some, kept, length, nat_lt, nat_tests, not, option_and_then, option_map, refl, seat_of, seen_in, set, slice_get, slice_set, slot_of, subst, suc, sym, true, unwrap_or, with_content, with_holder, with_pin, with_seat, without_holder, zero, ℕ, ◌&&◌, ◌*◌, ◌++◌, ◌+◌, ◌-◌, ◌<◌, ◌==◌, ◌∙◌, ◌∷◌, ◌≡◌, ◌≢◌, ◌≤◌, ◌⊎◌}
unfoldable pub use Rattle.buffer_cache.proofs.Vocabulary.{get_of, unused_from}
pub use Rattle.fs_layout.proofs.Vocabulary.{AllByRecursion, append-nil, eqb-false, eqb-true, length-append, ne_eqb, replicate, ◌^◌}
unfoldable pub use Rattle.fs_layout.proofs.Vocabulary.{logged, recovered, sizes_of, u32_at}
pub use Rattle.group_log.specs.Vocabulary.{CacheState, IsOutsideLog, seen}
pub use Rattle.group_log.specs.declared.phase.Phase.TheVariants.{Halted, Installing, Open, Staging}
pub use Rattle.group_log.specs.Soundness.{CanWrite, DiskFits, IsHome, IsPlaced, IsQuiet, IsSoundLog, LogState, PinsFit, PinsFrom, limit_of}
pub use Rattle.group_log.specs.declared.phase.Phase.{Phase}
pub use Rattle.group_log.specs.Pins.{HasRecorded, KeepsRecorded}
pub use Rattle.group_log.specs.Phases.{IsUnderWay, group_in, is_point, next_phase, phase_at_leave, write_of, write_to}
unfoldable pub use Rattle.group_log.specs.Phases.{head_block}
pub use Rattle.group_log.specs.CrashLaw.{AgreeOutside, Blocks, IsLoggedRun, StopsAtACut, begun, commit_cut}
pub use Rattle.group_log.specs.Group.{HasRoom, IsMember, has, joined, members_with, one_more, rooms, with_block}
pub use Rattle.group_log.specs.Turns.{seats_after, seats_at_fault}
pub use Rattle.std.proofs.Common.{add-one, add-zero, min, slice_index, ◌||◌}
pub use Rattle.group_log.specs.Moves.{IsCommitMove, IsMove, IsRunOfLog, LogsAreLoggedRuns, LogsStopAtACut, MovesCompose, Stands, begins_at, is_running, is_settled, is_under_way, recovered_of, seen_of}
pub use Rattle.group_log.specs.declared.log.AfterLeave.TheVariants.{Commits, Free}
pub use Rattle.std.specs.Option.{IfSome}
pub use Rattle.fs_layout.proofs.RecoveredDisk.{first_copy, logged-set, logged-written, recovered-copy, recovered-empty, recovered-own, sizes_of-set}
pub use Rattle.group_log.specs.Stories.{AreWhole, CutsHaveReplies, IsApart, IsKept, IsMarked, IsMarkedRun, IsMarkedStop, IsSpanned, IsStory, MarksTellStops, NoneIsMarkedInPart, Span, Turns, after_leave, after_write, before, no_marks}
unfoldable pub use Rattle.group_log.specs.Stories.{RisesBy}
pub use Rattle.group_log.specs.Waiting.{IfFailed, IfMade, IfWaits, StaysOrBecomes, join_waits, left_at, progress_at}
pub use Rattle.group_log.specs.declared.commit.Progress.{Progress}
pub use Rattle.group_log.specs.declared.commit.Progress.TheVariants.{Ended, Failed, Waits as WaitsFor, Wrote}
pub use Rattle.group_log.specs.declared.log.AfterLeave.{AfterLeave}
pub use Rattle.group_log.specs.declared.marks.Marks.{Marks}
pub use Rattle.buffer_cache.proofs.Laws.{GetLaws, back_laws, change_laws, fill_laws, get_laws, pin_keeps, pin_seen}
pub use Rattle.buffer_cache.proofs.Sound.{seen_home, seen_past, sound_home, sound_pin, sound_uncached, sound_unpin}
pub use Rattle.group_log.specs.Slots.{AreInSlots, HasSlots, SlotsFit, slots_with}
pub use Rattle.group_log.specs.Whole.{CallsKeepWhole, IsWhole, LeadsToWhole, written}
pub use Rattle.group_log.specs.Written.{by_outcome, outcome_of}
pub use Rattle.group_log.specs.declared.copies.Written.{Written}
pub use Rattle.std.proofs.Math.ListN.{length-set}
pub use Rattle.std.proofs.Math.Seq.{get_or-append_seam}
pub use Rattle.std.proofs.lemmas.Bool.{le-ltb, lt-ltb, ltb-false}
pub use Rattle.std.proofs.lemmas.List.{get_or_append_left}
pub use Rattle.std.proofs.lemmas.List.Elements.{filter-append}
pub use Rattle.std.proofs.lemmas.List.Sums.{sum_by-cons}
pub use Rattle.buffer_cache.specs.declared.got.Got.{Got}
pub use Rattle.buffer_cache.specs.declared.got.Got.TheVariants.{Held, Waits}
pub use Rattle.fs_layout.specs.declared.superblock.Super.{Super}

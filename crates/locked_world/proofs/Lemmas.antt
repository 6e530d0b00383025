-- What the proofs of this crate's functions use: its lemmas, and what they speak of.
pub use Rattle.locked_world.proofs.Vocabulary.{Call, Came, ComesFromImage, Event, Fuse, HandsBack, IfSome, IsKept, IsNoted, IsUnmoved, List, LockedRun, Note, Passes, Reply, Stopped, StoredRun, [], all_shown, ap, arith, contents, device_of, disk_of, drop, failures, get_or, given_to, length, map, noted_events, noted_outcomes, noted_pairs, opened, refl, replies_in, replies_of, shared_of, slice_get_past, subst, sym, take, with_event, ◌++◌, ◌+◌, ◌<◌, ◌∙◌, ◌∷◌, ◌≡◌, ◌≢◌, ◌≤◌}
pub use Rattle.inodes_on_blocks.proofs.Vocabulary.{IsWellFormed, rules, slice_get, take_all}
pub use Rattle.locked_world.specs.Vocabulary.{Start, Step, said}
unfoldable pub use Rattle.locked_world.specs.Vocabulary.{blocks_of}
pub use Rattle.locked_world.proofs.Noted.{events_count, first_pair, no_pair, noted_here, noted_plain, noted_reply, noted_start, pair_events, pair_outcomes, plain_event, plain_outcome, reply_outcome, same_at, start_event, told_plain, told_replies, told_reply, told_start, told_step}
pub use Rattle.locked_world.specs.Kept.{HasOneHistory, IsRun}
pub use Rattle.hart_core.specs.declared.events.Came.TheVariants.{Refused, Started, Stepped}
pub use Rattle.hart_core.specs.declared.outcome.Outcome.TheVariants.{Done, Idle, Ran, Waits}
pub use Rattle.locked_world.proofs.Explained.{explained_run}
pub use Rattle.locked_world.proofs.Halting.{halt_told}
pub use Rattle.locked_world.proofs.Keeping.{begun_below, had_spare, kept_done, kept_refused, kept_started, kept_step, kept_waits, replies_below, waits_unmoved}
pub use Rattle.locked_world.proofs.Listed.{none_some, passed, reply_stands, same_some, seen_at, taken_length, too_many, took, upto}
pub use Rattle.locked_world.proofs.Opening.{called_from, kept_opened, mounted_on}
pub use Rattle.locked_world.specs.Told.{MakesStart, MakesStep}
pub use Rattle.std.proofs.Common.{IfNone}

-- What this crate's proofs speak of: its own definitions, and what the crates below and the library call things.
pub use Rattle.calls_on_blocks.proofs.Vocabulary.{Answer, Began, Begins, Bool, ExecResult, DidEnd, Do, Event as EventOf, Fails, Get, Handlers, IsOutsideLog, IsWholeLog, List, LockResult, LocksIt, LogPart, None, NotLocked, Op, Option, Other, Outside, P as Above, PartOf, Passes, Ran, Refusal, Refuses, Replied, Ret, SeatState, SharedState, Shown, Shows, Some, Start, Started as IsBegun, Step, Stops, Theory, Version, Waits, [], ap, append_assoc, arith, begin_in, block_at, block_calls, block_code, child_of, exec_result_in, false, first, fresh as fresh_state, get_or, got_by, handlers, if◌then◌else◌, in_log, inl, inr, inv_of, layer, length, length-set, machine, map, mounts_show_their_trees, nat_lt, nat_tests, own_step, program, read_block, read_on, read_reply, refl, say, served_calls, slice_set, sound_fresh, sound_keeps, subst, suc, sym, take, take_more, tree_in, true, zero, ℕ, ◌++◌, ◌+◌, ◌-◌, ◌/◌, ◌<◌, ◌==◌, ◌∙◌, ◌∷◌, ◌≡◌, ◌≢◌, ◌≤◌}
unfoldable pub use Rattle.calls_on_blocks.proofs.Vocabulary.{May, exec, get_of, put, sizes_of}
pub use Rattle.inodes_on_blocks.proofs.Vocabulary.{BlockInHand as FetchedBlock, Carry, FilledMemory, GetLaws, Handover, IfSome, LockedState, Locks, LowerLayer, Machine, Prog, State, address, bind, block_len, blocks_between, drop, end_of, fetch, fetch_at, fetch_block, fetch_named, fetch_number, file_locked, filled_with, get_laws, get_or_past, give_fetched, give_read, kept, length-append, length-take, load_unless, next_block, overwrite, part_of, read_file, read_from, read_part, read_unless, record_in, replicate, seen_of, slice_get_past, table_of, take-append-drop, unwrap_or, ◌%◌}
unfoldable pub use Rattle.inodes_on_blocks.proofs.Vocabulary.{read_blocks}
pub use Rattle.hart_core.proofs.Vocabulary.{AllAnswer, Answers, DidWait, HartsOf, IsMounted, Makes, MayOf, OutcomeOf, P, Plain, PlainMade, Refused, Rests, Running, SoundPlain, Started, WorldOf, all_shown, begun_here, calls_of, came_of, changed, event_of, is_called as is_some, is_code, lawful, nat_eq, outcome_of, plain, plain_begun, plain_makes, plain_moved, plain_prog, plain_run, plain_start, plain_step, plain_tried, plain_unless, program_at, reason_of, shared_of, shown, shown_outcome, sound_may, with_answer}
unfoldable pub use Rattle.hart_core.proofs.Vocabulary.{running_of}
pub use Rattle.locked_world.specs.Vocabulary.{CallsOnce, ComesByCalls, Fuse, IsExplained, IsFusedCall, Stop, trace_in}
pub use Rattle.fs_layout.proofs.Vocabulary.{get_or-set_other, get_or-set_same, length-drop}
pub use Rattle.inode_machine.proofs.Vocabulary.{ClaimResult, EntryResult, InPlace, New, NoBlock, NoInode, NoPlace, NoSlot, read_program}
pub use Rattle.locked_world.specs.HandedBack.{EndsWith, FitsBlock, HandsBack, KeepsAfter, SpareFits, read_count}
pub use Rattle.locked_world.specs.Kept.{ComesFromImage, IsKept, IsRunOf, LockedRun, OneListExplains, StoredRun, contents, count_in, counts, device_of, disk_of, failures, opened, replied_by, replies_in, replies_of, shown_in, with_event}
pub use Rattle.std.proofs.Common.{append-nil, slice_index_or}
pub use Rattle.atomic_programs.specs.Joined.{lowered}
pub use Rattle.locked_world.specs.Stories.{IsNoted, answered, came_at, came_noted, each, event_at, event_noted, given_to, is_reply, is_start, noted_events, noted_outcomes, noted_pairs, past, replies, reply_to, starts, takers}
pub use Rattle.locked_world.specs.declared.note.Given.{Given}
pub use Rattle.std.proofs.lemmas.Bool.Decides.{eqb_tells}
pub use Rattle.std.specs.List.{slice_get}
pub use Rattle.atomic_programs.proofs.Reached.{sound_event}
pub use Rattle.block_device.specs.Calls.{one_more}
pub use Rattle.calls_on_blocks.proofs.History.{first_holds, first_idle}
pub use Rattle.calls_on_blocks.proofs.Starting.{below_count}
pub use Rattle.calls_on_blocks.specs.Layer.{exec_shared}
pub use Rattle.group_log.specs.Soundness.{CleanFrom, DiskFits}
pub use Rattle.hart_core.proofs.Histories.{explained, history_more, no_history, one_each}
pub use Rattle.hart_core.proofs.Resting.{mountable, rests_erased}
pub use Rattle.hart_core.proofs.Stepping.{nones}
pub use Rattle.hart_core.specs.declared.outcome.Outcome.TheVariants.{Stopped}
pub use Rattle.hart_core.specs.declared.outcome.Stop.TheVariants.{DeviceFault}
pub use Rattle.inodes_on_blocks.specs.Files.{with_file}
pub use Rattle.locked_world.specs.Told.{HaltAnswers, IsUnmoved, Steps, halt_for}
pub use Rattle.locked_world.specs.declared.locked.Halt.{Halt}
pub use Rattle.locked_world.specs.declared.note.Note.{Note}
pub use Rattle.locked_world.specs.declared.note.What.{What}
pub use Rattle.std.proofs.Math.ListN.{length-replicate}
pub use Rattle.std.proofs.lemmas.Option.{slice_get_cases, slice_get_read}
pub use Rattle.std.proofs.lemmas.Slice.{drop-append-drop}
pub use Rattle.buffer_cache.specs.declared.got.Got.{Got}
pub use Rattle.fs_layout.specs.declared.inode.Dinode.{Dinode}
pub use Rattle.fs_layout.specs.declared.superblock.Super.{Super}
pub use Rattle.fs_machine.specs.declared.kind.Kind.{Kind}
pub use Rattle.group_log.specs.declared.phase.Phase.{Phase}
pub use Rattle.group_log.specs.declared.phase.Phase.TheVariants.{Halted, Installing, Open, Staging}
pub use Rattle.hart_core.specs.declared.events.Came.{Came}
pub use Rattle.hart_core.specs.declared.events.Event.{Event}
pub use Rattle.hart_core.specs.declared.outcome.Outcome.{Outcome}
pub use Rattle.hart_core.specs.declared.starts.StartRefused.{StartRefused}
pub use Rattle.inode_data.specs.declared.addresses.Address.{Address}
pub use Rattle.inode_data.specs.declared.addresses.Address.TheVariants.{Direct, InTable}
pub use Rattle.plain_tree.specs.declared.answer.Reply.{Reply}
pub use Rattle.plain_tree.specs.declared.call.Call.{Call}
pub use Rattle.plain_tree.specs.declared.call.Call.TheVariants.{Chdir, Close, Dup, Fstat, Inherit, Link, Mkdir, Open as OpenCall, Read, Unlink, Write}

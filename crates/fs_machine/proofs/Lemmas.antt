-- What the proofs of this crate's functions use: its lemmas, and what they speak of.
pub use Rattle.fs_machine.proofs.Vocabulary.{BufferState, Counts, ExecResult, Dies, Entry, Loaded, Fails, Free, Goes, GuardState, Hand, HandFits, HasNone, HasRoom, IfNone, IfSome, Inode, IsAfter, IsHeld, IsLocked, IsMember, IsOwn, IsOwnInode, IsSome, IsSoundInodes, Keeps, LeavesAllBut, LeavesLocked, List, LogPart, None, Op, Option, P, Passes, Ran, Ret, SlotState, Some, State, Stops, TablesState, Taken, Waits as ItWaits, [], ap, arith, begun_at, buffer_at, bytes_at, change_at, claim_first, claims, commits, dead_of, exec_result_in, directory_of, false, file_named, fresh, get_or, given_directory, has, in_log, in_tables, inl, inode_at, inode_in, inr, is_some, joins, kind_of, lock_holder as holder_of, locked_as, number_at, one_less, one_more, op_in, option_map, part_of, place_of, reference_at, references_of, refl, row_of, slice_get, slice_get-get_or, slice_set, state_of, subst, sym, true, uncounted_at, with_buffer, with_descriptor, with_directory, with_file, with_hand, with_inode, with_listed, with_open, with_reference, with_seated, with_txn, ℕ, ◌++◌, ◌+◌, ◌<◌, ◌∙◌, ◌∷◌, ◌≡◌, ◌≢◌, ◌≤◌}
unfoldable pub use Rattle.fs_machine.proofs.Vocabulary.{Honest, May, answer_in, double_descriptor, drop_freed, drop_inode, drop_walked, exec, lock_inode, open_file, settle_inode, shut_descriptor, take_place, unlock_inode, up_directory, up_inode}
pub use Rattle.fs_machine.proofs.Fits.{aside-none, block-there, buffer-again, buffer-back, buffer-changed, buffer-given, buffer-taken, buffer-there, bytes-there, content-there, has-txn, held-with, inode-given, inode-in, inode-taken, inode-there, lists, log-stays, no-buffer, number-there, only-buffer, prepared, puts-aside, reference-again, reference-back, reference-none, reference-there, refers, seated-again, seated-beside, seats-aside, tables-stay, txn-back}
pub use Rattle.fs_machine.proofs.Opening.{desks_changed, double_bad, double_full, double_gave, files_set, none_taken, open_full, open_gave, open_nowhere, shut_bad, shut_last, shut_named, shut_nothing, taken_ran}
pub use Rattle.fs_machine.proofs.Performing.{waits}
pub use Rattle.fs_machine.proofs.Places.{found, set_change}
pub use Rattle.fs_machine.proofs.Naming.{all_counted, counted_new, counted_same, counted_set, has_room, named_any, no_desk, some_counted}
pub use Rattle.fs_machine.proofs.Used.{free_more, free_none, free_past, free_set, free_used, may_count, sought_used, used_below}
pub use Rattle.fs_machine.proofs.Counting.{counted_good, counted_locked, last_free, uncounted_good, uncounted_locked}
pub use Rattle.fs_machine.proofs.Dying.{drop_counted, drop_dies, freed_counted, freed_nowhere, had_alive, had_back, had_dead, is_dead, out_alive, walked_counted, walked_kept, walked_nowhere}
pub use Rattle.fs_machine.proofs.Locking.{had_out, lock_apart, lock_good, lock_had, lock_leaves, lock_own, lock_ran, lock_still, lock_still_at, lock_waits, numbered, unlock_frees, unlock_good, unlock_leaves, unlock_ran}
pub use Rattle.fs_machine.proofs.Ran.{commit_honest, commit_ran, get_own, get_ran, get_still, join_ran, leave_ran, put_back_ran, put_changed_ran, read_honest, read_ran}
pub use Rattle.fs_machine.specs.Inodes.{Locks, settled}
pub use Rattle.fs_machine.proofs.Beginning.{begun_good, begun_locked, begun_locks, free, free_from, free_if, free_in, out_replaced, up_begun, up_counted, up_full}
pub use Rattle.fs_machine.proofs.DyingHands.{dies_loaded}
pub use Rattle.fs_machine.proofs.Ends.{commit-goes, leave-goes}
pub use Rattle.fs_machine.proofs.GivenDirectory.{given_nowhere, given_there}
pub use Rattle.fs_machine.proofs.Held.{dying-apart, dying-in, file_refused, file_tried, join_refused, join_tried, lock-apart, open_tried, own-in, still-in, unreferenced}
pub use Rattle.fs_machine.proofs.Making.{fresh_good, root_inode}
pub use Rattle.fs_machine.proofs.Parts.{committed-in, dropped-in, got-in, joined-in, locked-in, read-in}
pub use Rattle.fs_machine.proofs.Stepping.{after-prepared, bare-fits, of-next, prepared-stops, prepared-waits, ran-asked, ran-step, stops-step, waits-step}
pub use Rattle.fs_machine.specs.Hands.{first_in, first_listed, with_content, with_first}
pub use Rattle.fs_machine.specs.Limits.{descriptor_count}
pub use Rattle.fs_machine.specs.Ops.{dropped_by}
pub use Rattle.fs_machine.specs.Steps.{NoInode}
pub use Rattle.fs_machine.specs.declared.files.FilePlace.TheVariants.{Open}
pub use Rattle.std.proofs.Common.{drop, replicate, take, ◌^◌}
pub use Rattle.std.proofs.lemmas.List.{replicate_more}

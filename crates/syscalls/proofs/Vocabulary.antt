-- What this crate's proofs speak of: its own definitions, and what the crates below and the library call things.
pub use Rattle.inode_parts.proofs.Vocabulary.{AtEntries, AtName, AtNothing, BeginsWith, Bool, CameTo, Do, GuardState, HasFound, HasFreeSeat, HasLock, HasNoBuffer, HasOne, HasOpened, HasReference, Having, IfSome, IsAlone, IsCounted, IsEmpty, IsSome, LearnsFile, Leaves, List, MatchOption, MayLock, MayOpen, MayRefer, MayRelock, Name, None, OfDirectory, OfFile, Opened, Option, Query, ReferredOrAside, Ret, Sight, Some, InodeType, [], ap, arith, descriptor_count, dup_on, eq_is, eq_self, false, first_in, free_seat, full, if◌then◌else◌, inl, inode_at, inr, is_some, length, length-append, locks, nat_lt, nat_tests, not, note_at, option_map, other, read_on, read_reply, reference_at, refers, refl, say, seat_of_lock, seat_of_reference, subst, suc, sym, take, true, unloaded, unmarked, with_aside, with_first, with_inode, with_listed, with_reference, with_seated, with_txn, without_content, without_numbers, zero, ℕ, ◌++◌, ◌+◌, ◌-◌, ◌<◌, ◌==◌, ◌^◌, ◌∙◌, ◌∷◌, ◌≡◌, ◌≢◌, ◌≤◌, ◌⊎◌}
unfoldable pub use Rattle.inode_parts.proofs.Vocabulary.{Runs}
pub use Rattle.inode_machine.proofs.Vocabulary.{Begin, Face, Frees, Look, NoMemory, NotThere, Orphans, WalkStop, ThisP as P, always, bump_refused, bumps_if, chdir_at, clear_name, close_on, close_program, count_limit, create_found, create_in, creates, done, dot, dotdot, drop, dup_program, either, empties, entered_file, eq_isnt, eq_not, face_or, failed, file_for, filter, free_all, free_listed, give_up, in_parent, inherit_end, inherit_program, installed_on, installs, is_absolute, is_directory_face, is_directory_type, is_empty, is_live_face, is_missing, is_refused, is_there, joined_on, leave_directory, lend_from, lend_on, length-take, lent_directory, link_found, link_in, link_name, looks_if, looks_or_quits, looks_where, lower, lower_parent, make_on, make_other, make_with, makes, map, mends_if_full, mends_unless_new, mkdir_in, mkdir_on, mkdir_other, mkdir_refused, mkdir_with, name_directory, named_on, open_at, open_end, open_face, open_made, open_new, open_refusal, opened_reply, or_missing, own_step, piece_count, quits_unless, read_program, start, start_on, stat_on, stat_program, stat_reply, stopped, tail, take_descriptor, truncates, unlink_child, unlink_dots, unlink_found, unlink_in, unlink_named, unlink_other, unmake, walk, walk_parent, walk_step, with_last, write_from, write_piece, write_program, write_reply, wrote_on, ◌||◌}
pub use Rattle.plain_tree.specs.Tree.{elements}
pub use Rattle.image_versions.specs.Versions.{name_len_of}
pub use Rattle.image_versions.specs.declared.version.Version.{Version}
pub use Rattle.inode_machine.specs.Moving.{chdir_program}
pub use Rattle.inode_machine.specs.Naming.{link_at, link_program, link_raise, mkdir_program, unlink_program}
pub use Rattle.inode_machine.specs.Opening.{open_old, open_program}
unfoldable pub use Rattle.inode_machine.proofs.Vocabulary.{pieces, same_name}
pub use Rattle.fs_machine.proofs.Vocabulary.{BufferState, HandFits, IsOwn, IsOwnInode, LeavesAll, LeavesTied, State, buffer_at}
pub use Rattle.fs_layout.proofs.Vocabulary.{is_name_byte, list_all, nat_le}
pub use Rattle.fs_layout.specs.Name.{IsName, is_name}
pub use Rattle.whole_calls.specs.Wholes.{IsCall, IsPath}
pub use Rattle.syscalls.specs.Machines.{Running, RunningFits}
unfoldable pub use Rattle.syscalls.specs.Machines.{running_of}
pub use Rattle.fs_machine.specs.Limits.{listed_places}
pub use Rattle.inode_parts.specs.Holding.{Joined, Relocked, Stand}
pub use Rattle.fs_machine.proofs.Fits.{hand-stays}
pub use Rattle.fs_machine.specs.Empty.{emptied}
pub use Rattle.fs_machine.specs.Hands.{HasNothing}
pub use Rattle.inode_machine.specs.Descriptors.{checked_reply}
pub use Rattle.inode_parts.proofs.HasOnes.{lowered_has}
pub use Rattle.syscalls.specs.Places.{call_at}
pub use Rattle.fs_machine.specs.InMemory.{Inode}
pub use Rattle.fs_machine.specs.declared.hand.Hand.{Hand}
pub use Rattle.fs_machine.specs.declared.hand.Place.{Place}
pub use Rattle.fs_machine.specs.declared.hand.Place.TheVariants.{First, Second}
pub use Rattle.fs_machine.specs.declared.hand.InodePlace.{InodePlace}
pub use Rattle.fs_machine.specs.declared.hand.InodePlace.TheVariants.{One, Two}
pub use Rattle.inode_parts.specs.declared.note.Note.{Note}
pub use Rattle.inode_parts.specs.declared.note.Notes.{Notes}
pub use Rattle.plain_tree.specs.declared.answer.Cause.{Cause}
pub use Rattle.plain_tree.specs.declared.answer.Cause.TheVariants.{BadDescriptor, DotName, Exists, IsDirectory, NoEntry, NotDirectory, NotEmpty, TooManyLinks}
pub use Rattle.plain_tree.specs.declared.answer.Full.TheVariants.{Blocks, Descriptors, Directory, DiskInodes, MemInodes, OpenFiles}
pub use Rattle.plain_tree.specs.declared.answer.Reply.{Reply}
pub use Rattle.plain_tree.specs.declared.call.Call.{Call}
pub use Rattle.plain_tree.specs.declared.step.Action.{Action}
pub use Rattle.plain_tree.specs.declared.tree.OpenFile.{OpenFile}

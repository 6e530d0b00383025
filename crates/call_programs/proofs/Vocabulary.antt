-- What this crate's proofs speak of: its own definitions, and what the crates below and the library call things.
pub use Rattle.inode_machine.proofs.Vocabulary.{Action, Answer, Blocks, Bool, Call, Cause, Claim, ClaimResult, Clear, Descriptors, DirectoryFull, DiskInodes, Do, DotName, Down, Empty, Enter, EntryResult, Face, Fill, Free, GiveUpWalk, InPlace, InodeType, Join, JoinFile, JoinResult, Joined, Leave, Lent, List, LoanResult, LockResult, LocksIt, Look, Mark, MemInodes, Move, Name, New, NoBlock, NoEntry, NoInode, NoMemory, NoPlace, NoSlot, None, NotDirectory, NotEmpty, NotJoined, NotLocked, NotThere, OfDirectory, OfFile, Op, OpenFiles, Option, Refused, Release, Reply, Ret, Short, Sight, Some, Store, WalkStop, Whole, WriteFile, ap, append_assoc, arith, begins_unless_full, create_found, create_in, creates, done, dot, dotdot, either, elements, empties, entered_file, eq_is, eq_self, face_or, failed, false, file_for, filter, free_all, full, give_up, if◌then◌else◌, inl, inr, installed_on, installs, is_directory_face, is_directory_type, is_empty, is_live_face, is_nothing, is_there, leave_directory, length, length-take, looks_if, looks_or_quits, looks_where, make_on, make_other, make_with, mends_if_full, mends_unless_new, not, open_at, open_end, open_face, open_new, open_old, open_program, open_refusal, opened_reply, own_step, piece_len, pieces, program, quits_unless, refl, same_name, say, see_parent, start, start_on, stopped, subst, suc, sym, tail, take, take-append-drop, take_descriptor, true, truncates, unmake, unmarked, walk, walk_parent, walk_step, with_last, zero, ℕ, [], ◌*◌, ◌++◌, ◌+◌, ◌-◌, ◌/◌, ◌<◌, ◌==◌, ◌||◌, ◌∙◌, ◌∷◌, ◌≡◌, ◌≤◌, ◌⊎◌}
pub use Rattle.call_programs.specs.Asks.{Asks, AsksSo, Because, Before, CallsAskSo, Excused, GivesBack, HandsBack, HasRoomFor, Held, IsIn, IsShort, Lacks, MayRecord, Nothing, Spending, Wants, after, claim_wants, fresh, holding, loose, more, naming, or_still, saw, sighting, spending_after, spoils, started, still, upped, wants_back, with_more, without}
pub use Rattle.inode_machine.specs.Naming.{always, bump_refused, bumps_if, clear_name, enters, in_parent, is_missing, is_refused, link_at, link_found, link_in, link_name, link_program, link_raise, lower, mkdir_in, mkdir_on, mkdir_other, mkdir_program, mkdir_refused, mkdir_with, name_directory, named_on, or_missing, unlink_child, unlink_found, unlink_in, unlink_other, unlink_program}
pub use Rattle.call_programs.specs.Changes.{Change, Claimed, Cleared, Counted, Emptied, Entered, Filled, GaveBack, MadeFileAtMost, Moved as MovedOn, Sighting, Stands, TookPlace, Wrote as WroteBytes, WroteFrom, by_double, by_entry, by_install, by_shut, by_write, changed_by, lowered, raised as raised_by, where_there}
pub use Rattle.inode_machine.specs.Descriptors.{checked_reply, close_on, dup_on, dups, joined_on, read_on, refused_read, refused_to, stat_on, write_from, write_piece, write_program, write_reply, writes, wrote_on}
pub use Rattle.inode_machine.specs.Budget.{HasRoom, Spent, TransactionsAreSmall, size, spent_after, unspent, with_bitmap, with_contents, with_record}
pub use Rattle.inode_machine.specs.World.Op.{Double, Forget, Install, Lend, LendDirectory, SetDirectory, Shut}
pub use Rattle.inode_machine.specs.Moving.{chdir_at, chdir_program, inherit_end, lend_from, lend_on, lends}
pub use Rattle.call_programs.specs.Wanted.{wanted_to_double, wanted_to_enter, wanted_to_write, wanted_unless, wanted_without}
pub use Rattle.inode_machine.specs.Rooms.{is_no_descriptor, is_no_entry, is_no_inode, is_short}
pub use Rattle.plain_tree.specs.Calls.{piece, piece_count}
pub use Rattle.plain_tree.specs.declared.answer.Cause.TheVariants.{Exists, IsDirectory}
pub use Rattle.image_versions.specs.Versions.{name_len_of}
pub use Rattle.image_versions.specs.declared.version.Version.{Version}
pub use Rattle.inode_machine.specs.Basics.{P}
pub use Rattle.inode_machine.specs.Parts.{makes}
pub use Rattle.inode_machine.specs.Vocabulary.{descriptor_count}
pub use Rattle.plain_tree.specs.Steps.{empty_it}
pub use Rattle.std.proofs.Common.{le-div_iff_mul-le}
pub use Rattle.std.proofs.lemmas.List.{drop-drop}
pub use Rattle.std.specs.Prelude.{map}
pub use Rattle.tree_laws.proofs.Vocabulary.{nat_tests}

-- The words that most of this crate's other definitions use.
pub use Rattle.inode_machine.specs.Exec.{child_of, entry_of, exec, file_count, given_of, is_at, is_free, is_nothing, next_used, offset_of, or_zero, place_count, read_refused, referenced, serving, slot_limit, with_entry, with_walk}
unfoldable pub use Rattle.inode_machine.specs.Exec.{first_from}
pub use Rattle.inode_machine.specs.Inodes.{AtEntries, AtName, AtNothing, Face, OfDirectory, OfFile, Query, Sight, InodeType, face_or, is_directory_face, is_directory_type, is_file_type, is_live_face, open_refusal, type_of, type_of_kind, stat_of_face}
pub use Rattle.inode_machine.specs.MoveCalls.{Alone, IsPlayedSoFar, MoveMachine, NoneClimbs, RunsFrom, TakesMove, shows, theory_of}
pub use Rattle.inode_machine.specs.Parts.{P, done, drop, failed, full, give_up, is_there, looks_if, looks_where, makes, mends_if_full, own_step, say, start, stopped, tail, walk, walk_parent}
pub use Rattle.inode_machine.specs.World.{Answer, ClaimResult, Desk, Entry, EntryResult, InPlace, JoinResult, Joined, Lent, LoanResult, LockResult, LocksIt, Mark, Mine, Moved, New, NoBlock, NoInode, NoPlace, NoSlot, NotJoined, NotLocked, Note, Op, Outside, Picks, Refused, Room, RoomFor, Short, Whole, World, Wrote, stage_of}

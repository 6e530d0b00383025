-- What the crates below call things: the words that this crate's definitions and contracts use.
pub use Rattle.group_log.specs.Vocabulary.{IsOutsideLog, MatchOption, SeatState, block_at, count_of, given_back, holder_of, is_held_by, kept, most_faults, seat_of, seen_in, unwrap_or, with_content, with_pin, with_seat}
unfoldable pub use Rattle.group_log.specs.Vocabulary.{get_of}
pub use Rattle.buffer_cache.specs.Vocabulary.{GuardState, SlotState, option_map}
pub use Rattle.atomic_programs.specs.Prog.{ExecResult, Do, OfNext, Prog, Ran, Ret, Stops, Waits, advance, asks, exec_result_in, once, unmarked}
pub use Rattle.buffer_cache.specs.Buffers.{BufferState}
pub use Rattle.fs_layout.specs.declared.inode.Dinode.{Dinode}
pub use Rattle.group_log.specs.declared.log.AfterLeave.{AfterLeave}
pub use Rattle.std.specs.Option.{option_map_or}
pub use Rattle.std.specs.Borrow.{Fml, Lends, MutBor}
pub use Rattle.buffer_cache.specs.Seats.{IsHeld}
pub use Rattle.std.specs.List.{list_any}
pub use Rattle.atomic_programs.specs.declared.machines.Stepped.{Stepped}
pub use Rattle.buffer_cache.specs.declared.got.Got.{Got}
pub use Rattle.group_log.specs.Group.{HasRoom, IsMember, has, joined, members_with, with_block}
pub use Rattle.group_log.specs.Soundness.{IsHome, LogState, limit_of}
pub use Rattle.group_log.specs.Turns.{seats_after, seats_at_fault, turn_is_out}
pub use Rattle.group_log.specs.Waiting.{IfWaits, join_waits, left_at}
pub use Rattle.group_log.specs.declared.log.AfterLeave.TheVariants.{Commits, Free}
pub use Rattle.group_log.specs.declared.phase.Phase.TheVariants.{Halted, Installing, Open, Staging}
pub use Rattle.atomic_programs.specs.Machines.{OnDone, Still, answered, moved_to, stepped_at}
pub use Rattle.atomic_programs.specs.declared.machines.SteppedInPlace.{SteppedInPlace}
pub use Rattle.atomic_programs.specs.declared.machines.Stepped.TheVariants.{Done, Stopped}
pub use Rattle.buffer_cache.specs.Getting.{IfHeld}
pub use Rattle.buffer_cache.specs.Limits.{hart_count}
pub use Rattle.group_log.specs.Phases.{group_in, next_phase, phase_at_leave, write_of, write_to}
pub use Rattle.group_log.specs.Whole.{IsWhole}
pub use Rattle.group_log.specs.declared.commit.Progress.{Progress}
pub use Rattle.group_log.specs.declared.phase.Phase.{Phase}
pub use Rattle.sleep_lock.specs.Row.{row_of}
unfoldable pub use Rattle.sleep_lock.specs.Row.{IsOut, lock_of}
pub use Rattle.sleep_lock.specs.SleepLock.{filled, taken}
pub use Rattle.fs_layout.specs.declared.superblock.Super.{Super}

-- What the crates below call things: the words that this crate's definitions and contracts use.
pub use Rattle.std.specs.Borrow.{Fml, Lends, MutBor, Array, u8}
pub use Rattle.std.specs.Option.{option_map, MatchOption, option_and_then, unwrap_or}
pub use Rattle.sleep_lock.specs.SleepLock.{GuardState, SlotState}
pub use Rattle.std.specs.List.{find, range_with_len}
pub use Rattle.block_device.specs.Blocks.{block_at}

-- What the crates below call things: the words that this crate's definitions and contracts use.
pub use Rattle.fs_layout.specs.Vocabulary.{AllByRecursion, block_at}
pub use Rattle.fs_layout.specs.declared.superblock.Super.{Super}
pub use Rattle.buffer_cache.specs.Seats.{CacheState, IsSound, KeepsHeld, SeatState, given_back, has_block, holder_of, is_held_by, is_pinned, kept, seat_of, seen, seen_in, slot_of, with_content, with_pin, with_seat}
pub use Rattle.fs_layout.specs.Recovered.{IsOutsideLog}
unfoldable pub use Rattle.fs_layout.specs.Recovered.{logged, recovered, sizes_of}
pub use Rattle.buffer_cache.specs.Lists.{count_of}
pub use Rattle.block_device.specs.Blocks.{faults_after, most_faults}
unfoldable pub use Rattle.buffer_cache.specs.Getting.{get_of}
pub use Rattle.buffer_cache.specs.declared.limits.TheConstants.{HARTS}
pub use Rattle.fs_layout.specs.Bytes.{overwrite}
unfoldable pub use Rattle.fs_layout.specs.Bytes.{u32_at}
pub use Rattle.fs_layout.specs.LogHead.{spell_log_head}
pub use Rattle.fs_layout.specs.Vocabulary.{magic_of}
pub use Rattle.fs_layout.specs.Widths.{block_len, log_head_count_at, super_block, super_magic_at}
pub use Rattle.std.specs.Option.{MatchOption, unwrap_or}

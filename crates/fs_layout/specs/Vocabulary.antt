-- What the crates below call things: the words that this crate's definitions and contracts use.
pub use Rattle.std.specs.List.{AllByRecursion, flat_map, list_all, position_or_len}
pub use Rattle.block_device.specs.Blocks.{block_at}
pub use Rattle.std.specs.Int.{bit_at, cast_signed, cast_unsigned, w16}
pub use Rattle.byteorder.specs.Endian.{little_bytes, little_number}
pub use Rattle.std.specs.Option.{option_map_or, unwrap_or}
pub use Rattle.image_versions.specs.Versions.{dirent_len_of, dirents_per_block_of, longest_name, magic_of, name_len_of, version_of_magic}
pub use Rattle.image_versions.specs.declared.version.Version.{Version}
pub use Rattle.image_versions.specs.declared.version.Version.TheVariants.{One}

-- What the proofs of this crate's functions use: its lemmas, and what they speak of.
pub use Rattle.fs_layout.proofs.Vocabulary.{IsDinode, List, [], ap, append-nil, arith, dinode_at, dinode_of, dirent_len_of, drop, eq-eqb, eqb, false, flat_map, get_or, is_zero, length, length-take-le, log_head_of, name_len_of, ne_eqb, numbers_in, overwrite, position_or_len_is, refl, replicate, spell_dinode, spell_dirent, spell_log_head, spell_numbers, spell_super, super_of, sym, take, to_z-of_z, true, ℕ, ◌%◌, ◌*◌, ◌++◌, ◌+◌, ◌-◌, ◌/◌, ◌<◌, ◌^◌, ◌∙◌, ◌∷◌, ◌≡◌, ◌≤◌}
unfoldable pub use Rattle.fs_layout.proofs.Vocabulary.{u16_at, u16_bytes, u32_at, u32_bytes, u32s_at}
pub use Rattle.byteorder.specs.Endian.{little_bytes}
pub use Rattle.fs_layout.proofs.Bitmaps.{changed_bit}
pub use Rattle.fs_layout.proofs.Inodes.{dinode_at_is, dinode_of-spell, length-spell_dinode, spell-dinode_of, wrote}
pub use Rattle.fs_layout.proofs.Numbers.{length-u32_bytes, length-u32s_at, length-u32s_bytes, u32s_at-more}
pub use Rattle.fs_layout.proofs.Overwrites.{part-overwrite, put_mid-tail, record_at-overwrite, then_overwrite}
pub use Rattle.fs_layout.proofs.Words.{front-overwrite, get_or-u32s_at, log_head_of-spell, numbers_in-spell, spell-log_head_of, spell-numbers_in, spell-super_of, super_of-has, super_of-spell, super_of-version, u32s_at-write, whole-overwrite}
pub use Rattle.std.proofs.Common.{SFits, rules, w16, w8}
pub use Rattle.fs_layout.proofs.Entries.{any_name, dirent_of-spell, field-part, name_parts, number-part, others_stay, reads_back, spell-dirent_of, wrote_used}
pub use Rattle.fs_layout.proofs.RecoveredDisk.{recovered-copy, recovered-own}
pub use Rattle.std.proofs.lemmas.List.{take_more, take_more_set}
pub use Rattle.std.proofs.lemmas.List.Concat.{flat_map-append}
pub use Rattle.std.proofs.lemmas.List.Elements.{All-from_get_or, recursion_from_All}
pub use Rattle.std.proofs.lemmas.Nat.Bits.{bit_at_clear_other, bit_at_clear_same, bit_at_set_other, bit_at_set_same}
pub use Rattle.image_versions.proofs.Places.{inside}

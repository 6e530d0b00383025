-- What this crate's proofs speak of: its own definitions, and what the crates below and the library call things.
pub use Rattle.fs_layout.specs.Vocabulary.{longest_name, AllByRecursion, One, Version, bit_at, block_at, cast_signed, cast_unsigned, dirent_len_of, flat_map, list_all, little_number, magic_of, name_len_of, option_map_or, position_or_len, unwrap_or, version_of_magic, w16}
pub use Rattle.std.proofs.Common.{Bool, FitsSigned, IsSome, List, None, Option, Some, [], ap, append_assoc, arith, cond, drop, eqb, false, get_or, inl, inr, is_some, length, length-append, length-drop, length-set, nat_le, nat_lt, negsuc, not, pos, refl, replicate, set, suc, sym, take, true, zero, ℕ, ℤ, ⊎_elim, ◌%◌, ◌&&◌, ◌*◌, ◌++◌, ◌+◌, ◌-◌, ◌/◌, ◌<◌, ◌==◌, ◌^◌, ◌↔◌, ◌∙◌, ◌∷◌, ◌≡◌, ◌≢◌, ◌≤◌, ◌⊎◌}
pub use Rattle.fs_layout.specs.Bytes.{IsBytes, i16_at, i16_bytes, overwrite, record_at}
unfoldable pub use Rattle.fs_layout.specs.Bytes.{u16_at, u16_bytes, u32_at, u32_bytes, u32s_at}
pub use Rattle.std.proofs.lemmas.Bool.{and_parts, cases_eq, cases_lt, eq-eqb, eqb-false, eqb-true, ne_eqb}
pub use Rattle.std.proofs.lemmas.Bool.Decides.{nat_tests}
pub use Rattle.std.proofs.lemmas.List.{append-nil, drop-drop, drop-take, drop_all, drop_at, drop_more, ext_get_or, get_or-drop, get_or-set_other, get_or-set_same, length-replicate, length-take-le, take-append-drop, take-append-le, take-take, take_at, take_rest}
pub use Rattle.fs_layout.specs.LogHead.{head_numbers, log_head, log_head_of, spell_log_head}
pub use Rattle.fs_layout.specs.Super.{IsSuper, spell_super, super_fields, super_numbers, super_of}
pub use Rattle.fs_layout.specs.declared.superblock.Super.{Super}
pub use Rattle.block_device.specs.BlockLaws.{block_at-set_other, block_at-set_same}
pub use Rattle.byteorder.specs.Numbers.{little_from-lt, little_from-take, little_number-reads_back}
pub use Rattle.fs_layout.specs.Bits.{bit_of}
pub use Rattle.fs_layout.specs.Entry.{IsDirent, dirent_at, dirent_of, free_of, name_of, spell_dirent, used_of}
pub use Rattle.fs_layout.specs.Indirect.{numbers_in, spell_numbers}
pub use Rattle.fs_layout.specs.Inode.{IsDinode, dinode_at, dinode_of, spell_dinode}
pub use Rattle.fs_layout.specs.Name.{IsAnyName, IsName, is_name, is_name_byte, is_zero}
pub use Rattle.fs_layout.specs.Recovered.{log_count, log_head_at, overlay, place_of}
unfoldable pub use Rattle.fs_layout.specs.Recovered.{logged, recovered, sizes_of}
pub use Rattle.fs_layout.specs.declared.entry.Dirent.{Dirent}
pub use Rattle.fs_layout.specs.declared.entry.Dirent.TheVariants.{Free, Used}
pub use Rattle.fs_layout.specs.declared.inode.Dinode.{Dinode}
pub use Rattle.fs_layout.specs.declared.log_head.LogHead.{LogHead}
pub use Rattle.std.proofs.Math.Nat.{mul-le-mul_left}
pub use Rattle.std.proofs.lemmas.Int.{of_z-to_z, to_z-of_z}
pub use Rattle.std.proofs.lemmas.List.Sums.{fails_before_first, passes_at_first, position_or_len_is, prefix_len-le-length}

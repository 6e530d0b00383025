-- What the proofs of this crate's functions use: its lemmas, and what they speak of.
pub use Rattle.mkfs.proofs.Vocabulary.{Version, dirent_len_of, mul-zero, overwrite, All-map, Dinode, IsDirent, IsName, List, NewFile, Node, ReadsOne, Some, Super, Used, [], ap, append_assoc, arith, contents_of, data_from, data_start, dot, dotdot, drop, entries_from, file_blocks, file_node, flat_map, get_or, image_of, inode_blocks, inodes_from, length, length-map, length-spell_dinode, length-spell_dirent, length-take-le, map, min, mkfs_line, names_of, node_blocks, nodes_with, pos, range_with_len, refl, replicate, root_node, rules, set, spell_dinode, spell_dirent, spell_numbers, spell_super, subst, super_for, sym, take, used_by, w16, ℕ, ◌%◌, ◌*◌, ◌++◌, ◌+◌, ◌-◌, ◌/◌, ◌<◌, ◌^◌, ◌∙◌, ◌∷◌, ◌≡◌, ◌≤◌}
unfoldable pub use Rattle.mkfs.proofs.Vocabulary.{bitmap, inode_for, inode_table, node_bytes, padded, root_content, whole}
pub use Rattle.fs_layout.proofs.Vocabulary.{to_z-of_z, ℤ}
pub use Rattle.std.proofs.lemmas.Result.{IfOk-equal}
pub use Rattle.mkfs.proofs.Steps.{at-file, blocks-next, blocks_more, content-parts, data-next, entries-next, inodes-next, name-at, ok_items, one_more, size-at}
pub use Rattle.mkfs.proofs.Padding.{bitmap-parts, length-addrs, node_bytes-small, overwrite-zeros, range-padded, range-set, take-padded, whole-missing}
pub use Rattle.mkfs.proofs.RootSizes.{most-slots, some-slots}
pub use Rattle.mkfs.proofs.Wanted.{fits, room, root_few}
pub use Rattle.mkfs.specs.Refusals.{IsFileName}
pub use Rattle.std.proofs.Common.{SFits, string_bytes}
pub use Rattle.clap.specs.Words.{FailsBy, fault_of, is_simple_and_free}
pub use Rattle.mkfs.proofs.DataBlocks.{bitmap-there, node-there}
pub use Rattle.mkfs.proofs.Doubles.{Seen, contains-has, not-false, not-true, seen-all, seen-double, seen-more, seen-none}
pub use Rattle.mkfs.proofs.Joins.{front-parts, image-parts, table-parts, used-parts}
pub use Rattle.mkfs.proofs.Lengths.{Fits}
pub use Rattle.mkfs.proofs.MadeImages.{is-made, same-length}
pub use Rattle.mkfs.proofs.OptionNumbers.{all_given}
pub use Rattle.mkfs.proofs.OptionValues.{line_is_simple, values_given}
pub use Rattle.mkfs.proofs.Places.{length-disk, log-empty, recovered-there, sizes-there}
pub use Rattle.mkfs.proofs.Readings.{Reads, first_part, number_is, number_read}
pub use Rattle.mkfs.proofs.Records.{are-nodes, inode-there}
pub use Rattle.std.specs.Option.{SomeIff}

-- What this crate's proofs speak of: its own definitions, and what the crates below and the library call things.
pub use Rattle.fs_layout.proofs.Vocabulary.{AllByRecursion, Bool, List, None, Option, Some, [], and_parts, ap, append-nil, append_assoc, arith, bit_of, block_at, block_at-set_other, block_at-set_same, cases_eq, cases_lt, cond, dinode_at, dirent_at, drop, drop_all, drop_more, eq-eqb, eqb, eqb-true, false, flat_map, get_or, get_or-set_other, get_or-set_same, inl, inr, length, length-append, length-replicate, list_all, log_count, log_head_at, log_head_of, nat_le, nat_lt, nat_tests, ne_eqb, negsuc, not, numbers_in, option_map_or, overwrite, place_of, pos, refl, replicate, set, spell_log_head, suc, super_fields, super_of, sym, take, take-append-drop, true, zero, ℕ, ℤ, ⊎_elim, ◌%◌, ◌&&◌, ◌*◌, ◌++◌, ◌+◌, ◌-◌, ◌/◌, ◌<◌, ◌==◌, ◌^◌, ◌∙◌, ◌∷◌, ◌≡◌, ◌≢◌, ◌≤◌, ◌⊎◌}
unfoldable pub use Rattle.fs_layout.proofs.Vocabulary.{logged, recovered, sizes_of, u32_at, u32s_at}
pub use Rattle.image_tree.specs.Vocabulary.{AllPairs, Device, Directory, File, IsOutsideLog, NodeKind, Node, One, Slot, Version, at_rest, block_len, dirent_len_of, dirents_per_block_of, inodes_per_block, magic_of, unwrap_or, version_of_magic}
pub use Rattle.plain_tree.proofs.Vocabulary.{Err, IsTrue, Ok, Result, add-one, filter, if◌then◌else◌, length-set, map, subst, take_more, ◌↔◌}
pub use Rattle.std.specs.List.{All, list_any}
pub use Rattle.image_tree.specs.Inodes.{block_number, blocks_for, content_of, direct, is_block, is_directory, is_free, is_live, is_number, is_positive, last, named_by, slots_of}
unfoldable pub use Rattle.image_tree.specs.Inodes.{content_block, first_slots, front_blocks, inode_of, is_live_directory, is_node, numbers_by, numbers_of, slot_at}
pub use Rattle.image_tree.specs.Layout.{IsLayout}
pub use Rattle.image_tree.specs.declared.disk.Layout.{Layout}
pub use Rattle.std.proofs.lemmas.Bool.{false_from_ne_true, false≢true, lt-ltb, ltb-true, true≢false}
pub use Rattle.image_tree.specs.Lists.{IsOnce, times}
unfoldable pub use Rattle.image_tree.specs.Lists.{count_upto, gathered}
pub use Rattle.image_tree.specs.Links.{Reaches, children_of, further_in, further_names_of, named_in, names_of, number_in, parent_of, proper_in, proper_names_of, slot_number, slot_numbers, up}
unfoldable pub use Rattle.image_tree.specs.Links.{climb, slots_in}
pub use Rattle.image_tree.specs.Checks.{AreGoodSlots, HasGoodCounts, HasGoodLog, HasGoodNumbers, HasGoodSizes, HasGoodSlots, HasGoodTypes, HasMarks, HasRoot, IsData, IsDotDot, IsFittingSize, IsGoodCount, IsGoodSize, IsGoodSuper, IsGoodType, IsOneTree, NamesOnce, dot, is_marked}
pub use Rattle.std.proofs.lemmas.List.{get_or-append-add, get_or-map, get_or-replicate, get_or_append_left, get_or_at, get_or_default, get_or_past, length-map, with_items_is}
pub use Rattle.image_tree.specs.Damage.{IsWellFormed, UpToLog}
pub use Rattle.fs_layout.proofs.RecoveredDisk.{IsFirstCopy, first_copy, logged-empty, logged-set, logged-written, recovered-copy, recovered-empty, recovered-own, sizes_of-set}
pub use Rattle.image_tree.specs.Marks.{IsLinks, IsNodeTable, IsUpTable, Marks, Tallies}
pub use Rattle.image_tree.specs.Trees.{count_of, is_file, slot_of, tree_in}
unfoldable pub use Rattle.image_tree.specs.Trees.{first_nodes, kind_of, node_of}
pub use Rattle.std.proofs.Common.{Contains, IsFalse, OnErr, OnOk, leb, ltb, min, slice_index, slice_index_or, vec_len, ◌<ℤ◌, ◌≤ℤ◌}
pub use Rattle.image_tree.specs.Shape.{is_live_node, is_orphan, shape_of}
pub use Rattle.image_tree.specs.Views.{ChecksSeeRecovered, IsViewOf, TreesSeeRecovered}
pub use Rattle.image_tree.specs.Freeing.{AreFreed, AreNamed, FreedDisksAgree, FreedNodesLeaveImages, HasPlace, IsElsewhere, IsFreed, IsFreedAlone, IsFreedDisk, IsPut, IsReclaimed, freed_inode}
pub use Rattle.std.proofs.Math.Nat.{pow-suc}
pub use Rattle.std.proofs.lemmas.Bool.Decides.{Decides-eqb}
pub use Rattle.std.proofs.lemmas.List.Elements.{All-append, Contains-append_left, Contains-append_right, Contains-push, Contains-push_cases, filter-append, filter_agree, filter_more, recursion_from_All}
pub use Rattle.std.proofs.lemmas.Map.Made.{IsDistinct-from_AllPairs}
pub use Rattle.fs_layout.proofs.Numbers.{length-u32s_at}
pub use Rattle.image_tree.specs.declared.links.Links.{Links}
pub use Rattle.std.proofs.lemmas.List.Concat.{flat_map-append}
pub use Rattle.std.proofs.lemmas.List.Kept.{AllPairs-cons}
pub use Rattle.std.proofs.lemmas.List.Quantifiers.{all_pairs_push}
pub use Rattle.std.proofs.lemmas.List.Sorted.{IsPermutation-sym}
pub use Rattle.std.proofs.lemmas.List.Sums.{fold_push, sum_by-append, sum_by-cons}
pub use Rattle.std.proofs.lemmas.Map.Steps.{length-le_from_distinct_below}
pub use Rattle.std.specs.List.Sorted.{IsPermutation}
pub use Rattle.std.specs.Prelude.{Vec}
pub use Rattle.std.specs.Vec.{with_items}
pub use Rattle.fs_layout.specs.Widths.{addresses, numbers_per_block}
pub use Rattle.fs_layout.specs.declared.entry.Dirent.{Dirent}
pub use Rattle.fs_layout.specs.declared.entry.Dirent.TheVariants.{Free, Used}
pub use Rattle.fs_layout.specs.declared.inode.Dinode.{Dinode}
pub use Rattle.fs_layout.specs.declared.log_head.LogHead.{LogHead}
pub use Rattle.fs_layout.specs.declared.superblock.Super.{Super}

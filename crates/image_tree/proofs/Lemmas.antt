-- What the proofs of this crate's functions use: its lemmas, and what they speak of.
pub use Rattle.image_tree.proofs.Vocabulary.{All, AreFreed, AreGoodSlots, Bool, Contains, Err, HasGoodCounts, HasGoodLog, IsData, IsFreedAlone, IsGoodCount, IsGoodSize, IsGoodSuper, IsGoodType, IsLayout, IsLinks, IsOnce, IsOneTree, IsOutsideLog, IsPut, IsTrue, IsViewOf, Layout, List, Marks, None, Ok, OnErr, OnOk, Result, Super, Tallies, UpToLog, Version, [], ap, append-nil, arith, bit_of, block_at, block_len, block_number, children_of, dinode_at, eqb, eqb-true, false, false≢true, filter, freed_inode, further_in, further_names_of, get_or, get_or_past, inl, inodes_per_block, inr, is_block, is_marked, is_orphan, last, length, log_count, map, named_by, named_in, names_of, nat_lt, not, parent_of, proper_in, recovered-empty, refl, replicate, set, slot_number, slot_numbers, slot_of, slots_of, subst, sym, take, take_more, true, up, ℕ, ◌%◌, ◌++◌, ◌+◌, ◌-◌, ◌/◌, ◌<◌, ◌^◌, ◌↔◌, ◌∙◌, ◌∷◌, ◌≡◌, ◌≢◌, ◌≤◌, ◌⊎◌}
unfoldable pub use Rattle.image_tree.proofs.Vocabulary.{first_nodes, first_slots, front_blocks, gathered, inode_of, is_live_directory, is_node, logged, numbers_by, numbers_of, recovered, sizes_of, slots_in}
pub use Rattle.fs_layout.proofs.Vocabulary.{eqb-false, length-take-le, to_z-of_z}
pub use Rattle.block_device.specs.Calls.{ComesByCalls, none}
pub use Rattle.block_device.specs.CallLaws.{calls_after, no_call}
pub use Rattle.image_tree.proofs.Told.{caught, held, refuted}
pub use Rattle.std.proofs.lemmas.Bool.{both_ways, iff_false, le-ltb}
pub use Rattle.image_tree.proofs.Layouts.{in_order, inode_at, length-logged, place_within, recovered_at}
pub use Rattle.image_tree.proofs.Puts.{copied, either_way, head_is, layout_stays, named, on_ok, on_ok_any, through}
pub use Rattle.image_tree.proofs.Views.{checks_see_recovered, trees_see_recovered}
pub use Rattle.image_tree.proofs.Climbs.{IsJumpTable, jumps_first, jumps_more, reach_told}
pub use Rattle.image_tree.proofs.Freed.{freed_nodes_leave_images}
pub use Rattle.image_tree.proofs.OneDisk.{freed_disks_agree}
pub use Rattle.image_tree.proofs.Installs.{Installed, cleared, installed_first, installed_next, ready_of, stopped_clear, stopped_copy}
pub use Rattle.image_tree.proofs.LinkLemmas.{children_are, further_loaded, length_kept, named_loaded, proper_loaded, table_kept, tallies_kept, tallies_more, tallies_none, up-one, up_table_is}
pub use Rattle.image_tree.proofs.MarkLemmas.{false_mark, kept_more, kept_other, kept_zero, marks_none, marks_push, once_nil, push_once, push_twice, true_mark, twice_front}
pub use Rattle.image_tree.proofs.Nodes.{directory_is, node_is, one_more, twelfth_of_node}
pub use Rattle.image_tree.proofs.NumberLists.{All-addrs, All-nil, numbers_by_free, numbers_by_used, numbers_with, numbers_without, small_numbers, twelfth_within}
pub use Rattle.image_tree.specs.Links.{slot_names}
pub use Rattle.std.proofs.Common.{SFits, rules, w16}
pub use Rattle.std.proofs.lemmas.List.{get_or-take, take_all}
pub use Rattle.image_tree.proofs.Clearing.{ClearedTo, cleared_first}
pub use Rattle.image_tree.proofs.CountLemmas.{GoodCount, count_told, free_count, table_at}
pub use Rattle.image_tree.proofs.EntryLemmas.{few_slots, flags-more, flags-one, no_directory, node_table_is, slots_told}
pub use Rattle.image_tree.proofs.Gathered.{gathered-none, marked, twice_gathered}
pub use Rattle.image_tree.proofs.Goods.{clear_good, copy_good}
pub use Rattle.image_tree.proofs.NameLemmas.{DifferAt, differ_once, differ_sorted, once_from_places, once_moved, once_moved_back}
pub use Rattle.image_tree.proofs.Reclaims.{IsImageOf, ReclaimedTo, are_freed, either_after, freed_by, freed_seen, image_next, named_all, named_seen, orphan_is, reclaimed_next, same_next, well_seen}
pub use Rattle.image_tree.proofs.ShapeLemmas.{ShapeUpto, shape_more, shape_none}
pub use Rattle.image_tree.proofs.SizeLemmas.{free_no_size, size_told, unfit_no_size}
pub use Rattle.image_tree.proofs.SlotLemmas.{first_slots-more, first_slots-none, numbers_of_directory, slots_in_directory, slots_in_other}
pub use Rattle.image_tree.proofs.SlotNumbers.{All-at}
pub use Rattle.image_tree.proofs.SuperAndLog.{no_head, short_is_one, super_is, supers_tell}
pub use Rattle.image_tree.proofs.TallyLemmas.{tally_in}
pub use Rattle.image_tree.proofs.TreeLemmas.{tables_of, tree_told, unnamed_no_tree, up_zero}
pub use Rattle.image_tree.proofs.TreeOfLemmas.{device_kind, directory_kind, file_kind, front_blocks-more, front_blocks-none, no_node_dead, no_node_free, node_told, nodes_more, nodes_one, numbers_loaded}
pub use Rattle.std.proofs.lemmas.Grind.{common_steps}

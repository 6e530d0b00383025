-- The lemmas that most of this crate's other lemmas use.
pub use Rattle.inodes_on_blocks.proofs.Accounts.{other_put, set_at, spent_put, transactions_have_room}
pub use Rattle.inodes_on_blocks.proofs.Alone.{alone_keeps, alone_laws, kept_same, kept_then, lasts_done}
pub use Rattle.inodes_on_blocks.proofs.Answering.{Answered, s-answered}
pub use Rattle.inodes_on_blocks.proofs.BitmapPuts.{bitmaps_put_bits, marks_are_bits}
pub use Rattle.inodes_on_blocks.proofs.BlocksRoom.{HasBlocks, block_room, blocks_end, blocks_start, cost_both, cost_more, extra, extra_missing, extra_there, named_room, number_again, number_before, number_more, number_new, number_stays, one_of}
pub use Rattle.inodes_on_blocks.proofs.Committing.{LeavesSeen, commit_none, commit_other, is_member, nobody_commits, with_log, written_same, written_shows, written_to}
pub use Rattle.inodes_on_blocks.proofs.ContentBlocks.{block_data, block_seen, data_place, direct_number, seen_sizes}
pub use Rattle.inodes_on_blocks.proofs.ContentStays.{block_stays, content_stays, holds_now, same_inode, same_numbers, used_now}
pub use Rattle.inodes_on_blocks.proofs.Desks.{first_place, lenders_set, named_is, own_desk, part_same, taken_same}
pub use Rattle.inodes_on_blocks.proofs.Fetching.{IsQuiet, buffer_seen, buffer_then, but_same, but_then, held_then, quiet_but, quiet_others, quiet_shows, s-back, s-fetch, with_buffers}
pub use Rattle.inodes_on_blocks.proofs.Fresh.{fresh_tables_show, nothing_loaded, nothing_locked, other_refs}
pub use Rattle.inodes_on_blocks.proofs.Groups.{has_members, put_grows}
pub use Rattle.inodes_on_blocks.proofs.Hands.{back_hand, same_view}
pub use Rattle.inodes_on_blocks.proofs.Held.{live_none}
pub use Rattle.inodes_on_blocks.proofs.HeldFrames.{block_of, content_same, named_kept, spare_kept, spare_put, untouched, untouched_change}
pub use Rattle.inodes_on_blocks.proofs.HeldNamed.{image_at_rest}
pub use Rattle.inodes_on_blocks.proofs.HeldPuts.{before_bits, data_leaves, given_back, inode_is, nothing_owed, other_inode, taken}
pub use Rattle.inodes_on_blocks.proofs.ImageBlocks.{block_true}
pub use Rattle.inodes_on_blocks.proofs.ImageNodes.{at_index, length_front, length_slots, whole_data}
pub use Rattle.inodes_on_blocks.proofs.ImagePlaces.{HasPlaces, all_by_places, contains_at, contains_place, number_place, once_by_places, one_place, place_apart, place_same, within}
unfoldable pub use Rattle.inodes_on_blocks.proofs.ImagePlaces.{place}
pub use Rattle.inodes_on_blocks.proofs.IndexedNodes.{emptied_slots, indexed_file, indexed_in, indexed_less, indexed_none, indexed_same}
pub use Rattle.inodes_on_blocks.proofs.LaidInodes.{addrs_alone, block_alone, count_laid, device_kept, empty_laid, empty_named, freed_held, laid_before, node_held}
pub use Rattle.inodes_on_blocks.proofs.Layer.{AllInHand, base_marked, below_laws, hand_then, hands_marked, hart_is, held_back, in_hand_then, is_here, kept_alike, kept_disk, lent_then, tables_left, through_put, through_then, untouched_same, untouched_then}
pub use Rattle.inodes_on_blocks.proofs.Lists.{no_hit, times_cons, times_filtered, times_nil}
pub use Rattle.inodes_on_blocks.proofs.Loading.{block_shown, empty_hand, inode_place, inode_read, s-load, same_again}
pub use Rattle.inodes_on_blocks.proofs.Locks.{both_ran, by_lock, locks_are_given, place_there, shown_locked, slot_with}
pub use Rattle.inodes_on_blocks.proofs.Looks.{AreRead, block_within, directory_is, entries_found, few_blocks, live_is, name_found, name_lost, no_entries, search_finds, shown, slot_found}
pub use Rattle.inodes_on_blocks.proofs.Marked.{SameCode, marked_same, shows_marked}
pub use Rattle.inodes_on_blocks.proofs.Named.{Names, card_named, descriptors_are_doubled, descriptors_name_files, directories_are_settled, file_is, files_counted, names_at, offsets_are_moved, open_there}
pub use Rattle.inodes_on_blocks.proofs.NewInodes.{among_free, found_passes, new_holds}
pub use Rattle.inodes_on_blocks.proofs.News.{kept_old, locked_old, new_kept, none_new, old_node, unkept_old}
pub use Rattle.inodes_on_blocks.proofs.Nodes.{dead_node, live_node, ninodes_are, no_node, nodes_at}
pub use Rattle.inodes_on_blocks.proofs.OpenFiles.{OpenStays, open_alike, open_kept, open_put, open_same, open_then, open_twice}
pub use Rattle.inodes_on_blocks.proofs.Owed.{all_owed, fewer_owed}
pub use Rattle.inodes_on_blocks.proofs.OwnedNumbers.{given_order, order_named, order_owned}
pub use Rattle.inodes_on_blocks.proofs.Places.{places_set}
pub use Rattle.inodes_on_blocks.proofs.Putting.{after, load_range, lock_range, put_begun, same_put, shows_put}
pub use Rattle.inodes_on_blocks.proofs.Quiet.{image_shown, join_keeps, leave_keeps, mounted_ghost, mounted_on, quiet_disk, still_joined}
pub use Rattle.inodes_on_blocks.proofs.RecordPuts.{leaves_others, node_then, quiet_leaves, quiet_owners, record_put, taken_stays}
pub use Rattle.inodes_on_blocks.proofs.RecordThen.{AllBut, LastsInHand, Ready, can_record, inode_home, inode_then, is_put, named_then, none_then, others_then, place_in, same_then, seen_dinode, then_, untaken}
pub use Rattle.inodes_on_blocks.proofs.Recorded.{bytes_then, disk_put, good_then, may_put, members_joined, old_bytes, own_put, put_bytes, put_hand, seen_put_other, seen_then, whole_put}
pub use Rattle.inodes_on_blocks.proofs.Records.{append_bytes, count_fits, drop_bytes, overwrite_bytes, stored_bytes, stored_long, take_bytes, u16s, u32s}
pub use Rattle.inodes_on_blocks.proofs.References.{by_place, directories_are_starts, load_same, shown_counted}
pub use Rattle.inodes_on_blocks.proofs.RunningBlocks.{quiet_image}
pub use Rattle.inodes_on_blocks.proofs.SeenDisks.{good_seen}
pub use Rattle.inodes_on_blocks.proofs.Slots.{card_set, desk_set, files_are_opened, files_set, hand_here, long_desks, long_files, places_are_taken}
pub use Rattle.inodes_on_blocks.proofs.SpentRoom.{bitmap_spent, both_more, has_number, other_spends, record_more, record_spent, spent_gives, spent_stays}
pub use Rattle.inodes_on_blocks.proofs.Starting.{TakesStep, s-here}
pub use Rattle.inodes_on_blocks.proofs.Stepping.{Came, CameTo, one_step, one_step_from, same_sizes}
pub use Rattle.inodes_on_blocks.proofs.Tables.{base_then, shows_then, unlocked_holds, with_tables}
pub use Rattle.inodes_on_blocks.proofs.Trees.{tree_well}

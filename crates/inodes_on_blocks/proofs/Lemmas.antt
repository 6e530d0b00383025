-- What the proofs of this crate's functions use: its lemmas, and what they speak of.
pub use Rattle.inodes_on_blocks.proofs.Vocabulary.{Answers, CheckFile, Clear, Double, Down, Empty, Forget, UnlockInode, HasSpent, Install, IsDone, Join, JoinFile, Leave, Lend, LendDirectory, LockOpen, ReadFile, Release, Say, SetDirectory, Shut, StatFile, Store, Take, Up, UpStart, WalkDown, [], alone, arith, check_file, close, double, down, forget, give, inode_block, install, join, join_file, leave, lend, lend_directory, lock_open, most_recorded, read_file, refl, release, say, size, slot, spent_after, stat_file, take_inode as take, up_start, walk_down, with_bitmap, with_contents, with_inode as with_record, ◌<◌}
pub use Rattle.inodes_on_blocks.proofs.Alone.{alone_keeps, alone_laws, does_it, does_it_at, lasts_done}
pub use Rattle.inodes_on_blocks.proofs.SpentRoom.{bitmap_spent, both_more, other_spends, record_more, record_spent, spent_gives}
pub use Rattle.inode_machine.specs.World.Op.{Free, LockFile, Slot}
pub use Rattle.inodes_on_blocks.proofs.Accounts.{transactions_have_room}
pub use Rattle.inodes_on_blocks.proofs.BitmapPuts.{bitmaps_put_bits as law, marks_are_bits}
pub use Rattle.inodes_on_blocks.proofs.ClaimSteps.{claims_within}
pub use Rattle.inodes_on_blocks.proofs.ClearSteps.{clear_acts}
pub use Rattle.inodes_on_blocks.proofs.CountSteps.{down_acts, up_acts, up_start_acts, walk_down_acts}
pub use Rattle.inodes_on_blocks.proofs.Counted.{references_are_counted, waits_for_others}
pub use Rattle.inodes_on_blocks.proofs.Drops.{references_are_dropped, walks_drop_references}
pub use Rattle.inodes_on_blocks.proofs.EmptySteps.{empty_acts}
pub use Rattle.inodes_on_blocks.proofs.ForgetSteps.{forget_acts}
pub use Rattle.inodes_on_blocks.proofs.FreeSteps.{free_acts}
pub use Rattle.inodes_on_blocks.proofs.Fresh.{fresh_tables_show}
pub use Rattle.inodes_on_blocks.proofs.Given.{blocks_are_given_back, numbers_are_given_back}
pub use Rattle.inodes_on_blocks.proofs.Gives.{children_are_released, descriptors_are_given, directories_are_given}
pub use Rattle.inodes_on_blocks.proofs.HeldFrames.{spare_put, untouched, untouched_change}
pub use Rattle.inodes_on_blocks.proofs.HeldImages.{image_of}
pub use Rattle.inodes_on_blocks.proofs.HeldPuts.{data_leaves, given_back, inode_leaves, nothing_owed, taken}
pub use Rattle.inodes_on_blocks.proofs.ImageNodes.{are_nodes, image_holds}
pub use Rattle.inodes_on_blocks.proofs.JoinFileSteps.{join_file_acts}
pub use Rattle.inodes_on_blocks.proofs.JoinSteps.{join_acts}
pub use Rattle.inodes_on_blocks.proofs.LaidBytes.{bytes_laid}
pub use Rattle.inodes_on_blocks.proofs.LaidInodes.{count_laid, dead_goes, empty_laid, empty_named, freed_held, laid_before, node_held}
pub use Rattle.inodes_on_blocks.proofs.LaidNumbers.{direct_named, number_named, table_named}
pub use Rattle.inodes_on_blocks.proofs.LaidSlots.{slot_laid}
pub use Rattle.inodes_on_blocks.proofs.LeaveSteps.{leave_acts}
pub use Rattle.inodes_on_blocks.proofs.LendSteps.{lend_acts, lend_directory_acts, release_acts}
pub use Rattle.inodes_on_blocks.proofs.LockSteps.{file_acts, open_acts}
pub use Rattle.inodes_on_blocks.proofs.Locks.{locks_are_given, locks_are_taken}
pub use Rattle.inodes_on_blocks.proofs.Mounted.{mounts_show_their_trees}
pub use Rattle.inodes_on_blocks.proofs.Named.{descriptors_are_doubled, descriptors_name_files, directories_are_settled, files_are_locked, files_are_locked_to_read, offsets_are_moved}
pub use Rattle.inodes_on_blocks.proofs.NamingWithins.{enters_within, fills_within}
pub use Rattle.inodes_on_blocks.proofs.PutLaws.{cleared_bits_leave, data_puts_leave, naming_puts_leave, record_puts_leave, recorded_puts_keep, set_bits_leave}
pub use Rattle.inodes_on_blocks.proofs.Quiet.{change_begins, change_ends, join_keeps, leave_keeps, mounted_ghost, mounted_on, mounted_tree, quiet_disk, quiet_image_of, record_keeps, unseen_keeps}
pub use Rattle.inodes_on_blocks.proofs.QuietWorlds.{quiet_worlds_are_images, resting_worlds_are_images}
pub use Rattle.inodes_on_blocks.proofs.ReadSteps.{read_acts}
pub use Rattle.inodes_on_blocks.proofs.References.{directories_are_starts, starts_are_counted, tables_count_references}
pub use Rattle.inodes_on_blocks.proofs.RunningBlocks.{begins, ends, image_runs, image_tree_runs, joins, node_any, puts_keep, quiet_holds, quiet_image}
pub use Rattle.inodes_on_blocks.proofs.SeenDisks.{good_seen, image_seen, recovered_image, seen_put, seen_stays}
pub use Rattle.inodes_on_blocks.proofs.Shuts.{descriptors_are_shut}
pub use Rattle.inodes_on_blocks.proofs.SlotSteps.{check_acts, close_acts, double_acts, install_acts, say_acts, slot_acts}
pub use Rattle.inodes_on_blocks.proofs.Slots.{files_are_opened, places_are_taken}
pub use Rattle.inodes_on_blocks.proofs.Spending.{programs_stay_within}
pub use Rattle.inodes_on_blocks.proofs.Spends.{programs_spend}
pub use Rattle.inodes_on_blocks.proofs.StatSteps.{stat_acts}
pub use Rattle.inodes_on_blocks.proofs.StoreSteps.{store_acts}
pub use Rattle.inodes_on_blocks.proofs.TableSteps.{give_acts, settle_acts}
pub use Rattle.inodes_on_blocks.proofs.TakeSteps.{take_acts}
pub use Rattle.inodes_on_blocks.proofs.Taken.{blocks_are_taken}
pub use Rattle.inodes_on_blocks.proofs.Trees.{tree_well}
pub use Rattle.inodes_on_blocks.proofs.Withins.{recordings_stay_within}
pub use Rattle.inodes_on_blocks.proofs.WriteSteps.{writes_within}
pub use Rattle.inodes_on_blocks.specs.Files.{lock_file}
pub use Rattle.inodes_on_blocks.specs.Handlers.{settle, up}

-- What the crates below call things: the words that this crate's definitions and contracts use.
pub use Rattle.image_tree.specs.Vocabulary.{Dinode, Dirent, Free, Super, Used, Version, block_at, block_len, dirent_at, dirent_len_of, dirents_per_block_of, log_count, log_head_len, magic_of, most_disk_blocks, most_faults, super_block, super_magic_at}
unfoldable pub use Rattle.image_tree.specs.Vocabulary.{logged, recovered, sizes_of, u32_at}
pub use Rattle.fs_layout.specs.Widths.{inodes_per_block}
pub use Rattle.image_tree.specs.Lists.{IsOnce, times}
unfoldable pub use Rattle.image_tree.specs.Lists.{gathered}
pub use Rattle.image_tree.specs.Inodes.{block_number, is_block, is_directory, is_free, is_live, last, named_by, slots_of}
unfoldable pub use Rattle.image_tree.specs.Inodes.{inode_of, is_live_directory, is_node, numbers_by, numbers_of}
pub use Rattle.image_tree.specs.Links.{Reaches, children_of, further_in, further_names_of, named_in, names_of, number_in, parent_of, proper_in, proper_names_of, slot_name, slot_names, slot_number, slot_numbers, up}
unfoldable pub use Rattle.image_tree.specs.Links.{slots_in}
pub use Rattle.image_tree.specs.Checks.{AreGoodSlots, HasGoodCounts, HasGoodLog, HasGoodNumbers, HasGoodSizes, HasGoodSlots, HasGoodTypes, HasMarks, HasRoot, HasSuper, IsData, IsDotDot, IsFittingSize, IsGoodCount, IsGoodSize, IsGoodSuper, IsGoodType, IsOneTree, NamesOnce, dot, is_marked, largest_size}
pub use Rattle.image_tree.specs.Damage.{IsFirstDamage, IsWellFormed, UpToLog, UpToMarks, UpToOnce, UpToRange, UpToRoot, UpToShort, UpToSize, UpToSizes, UpToSlots, UpToSuper, UpToTree, UpToTypes}
pub use Rattle.image_tree.specs.Layout.{IsLayout}
pub use Rattle.image_tree.specs.Marks.{IsUpTable, Marks, Tallies}
pub use Rattle.image_tree.specs.Reads.{OnlyReads}
pub use Rattle.image_tree.specs.declared.fault.Damage.{Damage}

-- What the crates below call things: the words that this crate's definitions and contracts use.
pub use Rattle.image_versions.specs.Shared.{largest_size, most_disk_blocks}
pub use Rattle.image_versions.specs.Versions.{dirent_len_of, most_slots_of, number_of}
pub use Rattle.image_versions.specs.declared.version.Version.{Version}
pub use Rattle.block_device.specs.Calls.{ComesByCalls}
pub use Rattle.block_device.specs.Blocks.{HasBytes, HasWholeBlocks}
unfoldable pub use Rattle.block_device.specs.Blocks.{blocks_of}
pub use Rattle.fs_layout.specs.Entry.{spell_dirent}
pub use Rattle.fs_layout.specs.Inode.{spell_dinode}
pub use Rattle.fs_layout.specs.Name.{IsName}
pub use Rattle.fs_layout.specs.Vocabulary.{flat_map}
pub use Rattle.fs_layout.specs.Widths.{addresses, inodes_per_block}
pub use Rattle.fs_layout.specs.declared.entry.Dirent.{Dirent}
pub use Rattle.fs_layout.specs.declared.entry.Dirent.TheVariants.{Free, Used}
pub use Rattle.fs_layout.specs.declared.inode.Dinode.{Dinode}
pub use Rattle.image_tree.specs.Damage.{IsWellFormed, JudgesFault, fault_count_of}
pub use Rattle.image_tree.specs.Faults.{fault_name, fault_number}
pub use Rattle.image_tree.specs.Inodes.{content_of, is_directory, is_live, last, slots_of}
unfoldable pub use Rattle.image_tree.specs.Inodes.{inode_of, is_live_directory, is_node}
pub use Rattle.image_tree.specs.Reads.{OnlyReads}
pub use Rattle.image_tree.specs.Trees.{tree_in}
pub use Rattle.fs_layout.specs.Recovered.{version_in}
unfoldable pub use Rattle.image_tree.specs.Vocabulary.{sizes_of}
pub use Rattle.image_tree.specs.declared.fault.MountFault.{MountFault}
pub use Rattle.mkfs.specs.Image.{free_inodes, zero_blocks}
unfoldable pub use Rattle.mkfs.specs.Image.{bitmap, front, node_bytes, padded}
pub use Rattle.mkfs.specs.Layout.{data_start, inode_blocks, node_blocks}
pub use Rattle.std.specs.List.{range_with_len}

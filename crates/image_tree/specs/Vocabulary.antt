-- What the crates below call things: the words that this crate's definitions and contracts use.
pub use Rattle.image_versions.specs.Shared.{most_disk_blocks}
pub use Rattle.image_versions.specs.Versions.{dirent_len_of, dirents_per_block_of, magic_of, version_of_magic}
pub use Rattle.image_versions.specs.declared.version.Version.{Version}
pub use Rattle.image_versions.specs.declared.version.Version.TheVariants.{One, Two}
pub use Rattle.fs_layout.specs.Vocabulary.{AllByRecursion, block_at, flat_map}
pub use Rattle.block_device.specs.Calls.{ComesByCalls}
pub use Rattle.fs_layout.specs.Recovered.{IsOutsideLog, SameRecovered, log_count, place_of}
unfoldable pub use Rattle.fs_layout.specs.Recovered.{logged, recovered, sizes_of}
pub use Rattle.block_device.specs.Blocks.{HasBytes, HasWholeBlocks, faults_after, most_faults}
pub use Rattle.fs_layout.specs.declared.entry.Dirent.{Dirent}
pub use Rattle.fs_layout.specs.declared.entry.Dirent.TheVariants.{Free, Used}
pub use Rattle.fs_layout.specs.Bits.{bit_of}
pub use Rattle.fs_layout.specs.declared.inode.Dinode.{Dinode}
pub use Rattle.fs_layout.specs.Entry.{dirent_at}
pub use Rattle.fs_layout.specs.Inode.{dinode_at}
pub use Rattle.fs_layout.specs.Widths.{addresses, block_len, inodes_per_block, log_head_len, super_block, super_magic_at}
unfoldable pub use Rattle.fs_layout.specs.Bytes.{u32_at}
pub use Rattle.fs_layout.specs.Indirect.{numbers_in}
pub use Rattle.fs_layout.specs.declared.superblock.Super.{Super}
pub use Rattle.plain_tree.specs.Fresh.{at_rest}
pub use Rattle.plain_tree.specs.TreeData.{TreeData}
pub use Rattle.plain_tree.specs.declared.node.NodeKind.{NodeKind}
pub use Rattle.plain_tree.specs.declared.node.NodeKind.TheVariants.{Device, Directory, File}
pub use Rattle.plain_tree.specs.declared.node.Node.{Node}
pub use Rattle.plain_tree.specs.declared.node.Slot.{Slot}
pub use Rattle.std.specs.List.{AllPairs, count_by}
pub use Rattle.std.specs.List.Sorted.{IsStrictlyIncreasing}
pub use Rattle.std.specs.Option.{option_to_list, unwrap_or}

-- What the crates below call things: the words that this crate's definitions and contracts use.
pub use Rattle.std.specs.Io.KnownBytes.{Appends}
pub use Rattle.std.specs.List.{flat_map, list_all, starts_with}
pub use Rattle.std.specs.Option.{option_map}
pub use Rattle.block_device.specs.Blocks.{blocks_of}
pub use Rattle.fs_layout.specs.Recovered.{version_in}
pub use Rattle.image_versions.specs.declared.version.Version.{Version}
pub use Rattle.image_tree.specs.Damage.{IsWellFormed, JudgesFault, JudgesWith}
pub use Rattle.image_tree.specs.Trees.{tree_in}
pub use Rattle.image_tree.specs.declared.fault.MountFault.{MountFault}
pub use Rattle.image_tree.specs.declared.fault.MountFault.TheVariants.{Damaged, DeviceFault, NoMemory}
pub use Rattle.plain_tree.specs.Steps.{size_of}
pub use Rattle.plain_tree.specs.Tree.{all_slots, elements, tree_of}
unfoldable pub use Rattle.plain_tree.specs.Tree.{follow}
pub use Rattle.plain_tree.specs.Widths.{root}
pub use Rattle.plain_tree.specs.declared.node.Node.{Node}
pub use Rattle.plain_tree.specs.declared.node.NodeKind.{NodeKind}
pub use Rattle.plain_tree.specs.declared.node.NodeKind.TheVariants.{Device, Directory, File}
pub use Rattle.plain_tree.specs.declared.node.Slot.{Slot}
pub use Rattle.std.specs.Prelude.{filter}
pub use Rattle.fs_layout.specs.declared.inode.Dinode.{Dinode}
unfoldable pub use Rattle.fs_layout.specs.Recovered.{logged, sizes_of}
pub use Rattle.image_tree.specs.Checks.{HasGoodNumbers, is_marked}
pub use Rattle.image_tree.specs.Inodes.{is_block, is_live, last, named_by}
unfoldable pub use Rattle.image_tree.specs.Inodes.{inode_of}
pub use Rattle.image_tree.specs.Layout.{IsLayout}
unfoldable pub use Rattle.image_tree.specs.Lists.{count_upto, gathered}
pub use Rattle.image_tree.specs.Shape.{is_live_node, is_orphan}
pub use Rattle.fs_layout.specs.Bits.{bit_of}
pub use Rattle.fs_layout.specs.declared.superblock.Super.{Super}
pub use Rattle.image_versions.specs.Versions.{number_of}
pub use Rattle.std.specs.Fmt.{signed_decimal}

-- What the crates below call things: the words that this crate's definitions and contracts use.
pub use Rattle.image_versions.specs.Shared.{direct, largest_size, most_content_blocks, most_disk_blocks}
pub use Rattle.image_versions.specs.Versions.{dirent_len_of, most_slots_of, version_of_number}
pub use Rattle.image_versions.specs.declared.version.Version.{Version}
pub use Rattle.image_versions.specs.declared.version.Version.TheVariants.{One, Two}
pub use Rattle.image_tree.specs.Vocabulary.{TreeData, at_rest, block_at, block_len, dinode_at, flat_map, inodes_per_block}
unfoldable pub use Rattle.image_tree.specs.Vocabulary.{logged, recovered, sizes_of}
pub use Rattle.image_tree.specs.Inodes.{blocks_for}
pub use Rattle.fs_layout.specs.Entry.{spell_dirent}
pub use Rattle.fs_layout.specs.Inode.{spell_dinode}
pub use Rattle.fs_layout.specs.Name.{IsName}
pub use Rattle.fs_layout.specs.Widths.{addresses, inode_len, numbers_per_block}
pub use Rattle.plain_tree.specs.Tree.{dot, dotdot}
unfoldable pub use Rattle.block_device.specs.Blocks.{blocks_of}
pub use Rattle.clap.specs.Words.{App, FailsBy, Rule, Text, app_of, fault_of, found_of, matches_of, new_app, new_rule, one_text, rows_of, rule_of, with_rule}
pub use Rattle.fs_layout.specs.Indirect.{spell_numbers}
pub use Rattle.fs_layout.specs.Super.{spell_super}
pub use Rattle.plain_tree.specs.Widths.{root}
pub use Rattle.std.specs.List.{range_with_len}
pub use Rattle.clap.specs.Lexer.{usize_max}
pub use Rattle.clap.specs.declared.builder.action.ArgAction.TheVariants.{Set, SetTrue}
pub use Rattle.clap.specs.declared.builder.value_parser.ValueParser.TheVariants.{Signed}
pub use Rattle.clap.specs.declared.parser.matches.ArgMatches.{ArgMatches}
pub use Rattle.image_tree.specs.Damage.{IsWellFormed}
pub use Rattle.image_tree.specs.Trees.{tree_in}
pub use Rattle.std.specs.Str.Parse.{IsNumeral, digits_value, without_leading_plus}
pub use Rattle.fs_layout.specs.declared.entry.Dirent.{Dirent}
pub use Rattle.fs_layout.specs.declared.entry.Dirent.TheVariants.{Used}
pub use Rattle.fs_layout.specs.declared.inode.Dinode.{Dinode}
pub use Rattle.fs_layout.specs.declared.superblock.Super.{Super}
pub use Rattle.plain_tree.specs.declared.node.NodeKind.TheVariants.{Directory, File}
pub use Rattle.plain_tree.specs.declared.node.Node.{Node}
pub use Rattle.plain_tree.specs.declared.node.Slot.{Slot}

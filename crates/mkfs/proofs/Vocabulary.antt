-- What this crate's proofs speak of: its own definitions, and what the crates below and the library call things.
pub use Rattle.image_tree.proofs.Vocabulary.{All, All-append, AllByRecursion, AllPairs, AreGoodSlots, Bool, Err, HasGoodCounts, HasGoodLog, HasGoodNumbers, HasGoodSizes, HasGoodSlots, HasGoodTypes, HasMarks, HasRoot, IsData, IsFittingSize, IsGoodCount, IsGoodSize, IsGoodSuper, IsGoodType, IsOnce, IsOneTree, IsWellFormed, List, NamesOnce, None, Ok, OnOk, Option, Result, Some, UpToLog, [], ap, append-nil, append_assoc, arith, at_rest, bit_of, block_at, block_number, blocks_for, cases_eq, cases_lt, children_of, cond, content_of, dinode_at, dirent_at, drop, drop_more, eq-eqb, eqb, eqb-true, false, false_from_ne_true, false≢true, filter, filter-append, flat_map, flat_map-append, further_in, further_names_of, get_or, get_or-map, get_or-replicate, get_or_append_left, get_or_at, get_or_default, if◌then◌else◌, inl, inr, is_block, is_directory, is_file, is_free, is_live, is_marked, is_number, is_positive, last, length, length-append, length-map, length-replicate, list_any, log_count, log_head_at, lt-ltb, map, min, nat_le, nat_tests, named_by, named_in, nat_lt, ne_eqb, not, numbers_in, overwrite, parent_of, pos, refl, replicate, set, slot_numbers, slot_of, slots_of, subst, suc, sum_by-append, sum_by-cons, super_fields, sym, take, take-append-drop, take_more, times, tree_in, true, up, zero, ℕ, ⊎_elim, ◌%◌, ◌&&◌, ◌*◌, ◌++◌, ◌+◌, ◌-◌, ◌/◌, ◌<ℤ◌, ◌<◌, ◌==◌, ◌^◌, ◌∙◌, ◌∷◌, ◌≡◌, ◌≢◌, ◌≤◌, ◌⊎◌}
unfoldable pub use Rattle.image_tree.proofs.Vocabulary.{climb, content_block, first_nodes, first_slots, front_blocks, gathered, inode_of, is_live_directory, is_node, kind_of, logged, node_of, numbers_by, numbers_of, recovered, sizes_of, slot_at, slots_in, u32_at, u32s_at}
pub use Rattle.mkfs.specs.Vocabulary.{ArgMatches, IsName, IsNumeral, Set, Signed, digits_value, dot, dotdot, matches_of, range_with_len, rows_of, spell_dinode, spell_dirent, spell_numbers, spell_super, without_leading_plus}
unfoldable pub use Rattle.mkfs.specs.Vocabulary.{blocks_of}
pub use Rattle.fs_layout.proofs.Vocabulary.{FitsSigned, IsDinode, IsDirent, IsSuper, bit_at, dinode_of, dirent_of, drop-drop, drop-take, drop_at, length-drop, length-take-le, record_at, super_numbers, take-append-le, take-take, take_at}
unfoldable pub use Rattle.fs_layout.proofs.Vocabulary.{u16_at}
pub use Rattle.plain_tree.proofs.Vocabulary.{take_all, ◌||◌}
pub use Rattle.mkfs.specs.Image.{Node, blocks_before, blocks_of_node, contents_of, data_from, entries_from, file_node, image_of, indirect_block, inodes_from, names_of, nodes_with, root_entries, root_node, used_by}
unfoldable pub use Rattle.mkfs.specs.Image.{bitmap, front, image_with, inode_for, inode_table, node_bytes, padded, root_content, whole}
pub use Rattle.mkfs.specs.Layout.{bitmap_start, data_start, file_blocks, inode_blocks, node_blocks, root_size, super_for}
pub use Rattle.mkfs.specs.Refusals.{CanBeMade, HasGoodNames}
pub use Rattle.std.proofs.lemmas.List.FromFn.{get_or-range_with_len, length-range_with_len}
pub use Rattle.std.proofs.lemmas.Bool.{le-ltb}
pub use Rattle.std.proofs.lemmas.List.Elements.{All-cons, All-get_or, All-head, All-map, All-nil, All-replicate, All-tail}
pub use Rattle.mkfs.specs.Stated.{file_in_tree, root_in_tree, root_slots, slots_from, stated_tree}
pub use Rattle.std.proofs.Common.{IfOk, below_more, codes, find, is_ok, is_some, option_map, rules, slice_get, sum_by, true≢false, w16}
pub use Rattle.std.proofs.lemmas.List.{drop-append-le, drop-replicate, get_or-append_right, map_more, replicate-append-replicate, set_at, take-replicate}
pub use Rattle.std.proofs.lemmas.List.Sums.{sum_by_more, sum_by_more_le}
pub use Rattle.clap.specs.Matches.{ReadsOne, found_of, has_subcommand, matched_of, one_text}
pub use Rattle.image_tree.proofs.Nodes.{directory_from, directory_is, node_from, node_is, numbers_by_node}
pub use Rattle.image_tree.specs.Damage.{UpToMarks, UpToRoot, UpToShort, UpToSizes}
pub use Rattle.mkfs.specs.Options.{HasNumber, HasVersion, mkfs_line, number_in}
pub use Rattle.mkfs.specs.declared.new_file.NewFile.{NewFile}
pub use Rattle.std.proofs.lemmas.Slice.Eq.{bytes_eq-Decides}
pub use Rattle.std.specs.Str.{bytes_eq}
pub use Rattle.block_device.specs.BlockLaws.{get_or-blocks_of, length-blocks_of}
pub use Rattle.clap.proofs.CallerLemmas.{entry_by_id}
pub use Rattle.clap.proofs.SimpleLemmas.{is_false, is_nil}
pub use Rattle.clap.proofs.WalkLemmas.{both, list_any-map}
pub use Rattle.clap.specs.Built.{BuildsOrBreaks, BuildsTo, is_broken}
pub use Rattle.clap.specs.Facts.{Entry, EntryPasses, HasId, HasIn, IsParsed, MayBeEmpty, PassesArg, WantsDefault, args_of, groups_of, parser_of, parser_of_value, unwrap_or_range}
pub use Rattle.clap.specs.Lexer.{without_minus}
pub use Rattle.clap.specs.Simple.{App, app_of, built, is_buildable}
pub use Rattle.clap.specs.Values.{Accepts, IsSignedIn, reading_of}
pub use Rattle.clap.specs.Walk.{Rule, Text, action_of, is_empty, rule_of, texts}
pub use Rattle.clap.specs.Words.{HasMatchesOf, is_simple}
pub use Rattle.clap.specs.declared.builder.action.ArgAction.TheVariants.{Count}
pub use Rattle.clap.specs.declared.builder.arg.Arg.{Arg}
pub use Rattle.clap.specs.declared.builder.command.Command.{Command}
pub use Rattle.clap.specs.declared.builder.command.Command.TheViews.{out-Command}
pub use Rattle.clap.specs.declared.builder.value_parser.Reading.TheVariants.{WithoutMinus}
pub use Rattle.clap.specs.declared.builder.value_parser.ValueParser.{ValueParser}
pub use Rattle.clap.specs.declared.error.Error.{Error}
pub use Rattle.clap.specs.declared.parser.matches.Found.{Found}
pub use Rattle.clap.specs.declared.parser.matches.MatchedArg.{MatchedArg}
pub use Rattle.fs_layout.proofs.Entries.{dirent_of-spell, length-spell_dirent}
pub use Rattle.fs_layout.proofs.Inodes.{dinode_of-spell, length-spell_dinode}
pub use Rattle.fs_layout.proofs.Numbers.{length-u32s_bytes}
pub use Rattle.fs_layout.proofs.Words.{numbers_in-spell, super_of-spell}
pub use Rattle.image_versions.specs.Versions.{dirent_len_of, dirents_per_block_of, magic_of, most_slots_of, name_len_of}
pub use Rattle.image_versions.specs.declared.version.Version.{Version}
pub use Rattle.image_tree.proofs.EntryLemmas.{no_node_zero}
pub use Rattle.image_tree.proofs.MarkLemmas.{once_nil}
pub use Rattle.image_tree.proofs.NumberLists.{numbers_by_free}
pub use Rattle.image_tree.specs.Checks.{HasSuper}
pub use Rattle.image_tree.specs.Links.{slot_names}
pub use Rattle.mkfs.specs.Made.{IsMade}
pub use Rattle.std.proofs.Math.Nat.{mul-suc, mul-zero}
pub use Rattle.std.proofs.Math.Pow.{pow-lt}
pub use Rattle.std.proofs.Math.Seq.{take-add}
pub use Rattle.std.proofs.lemmas.Int.{ints}
pub use Rattle.std.proofs.lemmas.List.Folds.{Any-from_list_any}
pub use Rattle.std.proofs.lemmas.Map.Lookups.{exact_bytes}
pub use Rattle.std.proofs.lemmas.Map.Text.{is_eq-slice_cmp}
pub use Rattle.std.proofs.lemmas.Nat.Bits.{bit_at-zero, bit_at_ones, bit_at_ones_above}
pub use Rattle.std.proofs.lemmas.Str.Parse.{digit_from_value}
pub use Rattle.std.specs.BTreeMap.{is_at}
pub use Rattle.std.specs.BTreeSet.{insert_key}
pub use Rattle.std.specs.Borrow.{Bor}
pub use Rattle.std.specs.Cmp.Lexicographic.{slice_cmp}
pub use Rattle.std.specs.List.{Any, slice_index_or}
pub use Rattle.std.specs.Ordering.{match_ordering, nat_cmp}
pub use Rattle.std.specs.Prelude.{IsErrAnd, unwrap_or, ⊤}
pub use Rattle.std.specs.Str.Parse.{ExplainsUnsignedError, HasUnsignedDigitsIfOk, ParsesUnsigned, starts_with_minus}
pub use Rattle.std.specs.declared.cmp.Ordering.{Ordering}
pub use Rattle.std.specs.declared.cmp.Ordering.TheVariants.{Equal, Greater, Less}
pub use Rattle.std.specs.declared.num.ParseIntError.{ParseIntError}
pub use Rattle.fs_layout.specs.declared.entry.Dirent.{Dirent}
pub use Rattle.fs_layout.specs.declared.entry.Dirent.TheVariants.{Free, Used}
pub use Rattle.fs_layout.specs.declared.inode.Dinode.{Dinode}
pub use Rattle.fs_layout.specs.declared.superblock.Super.{Super}
pub use Rattle.plain_tree.specs.declared.node.NodeKind.TheVariants.{Directory, File}
pub use Rattle.plain_tree.specs.declared.node.Slot.{Slot}

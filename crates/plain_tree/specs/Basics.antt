-- The words on which most other definitions of this crate build.
pub use Rattle.plain_tree.specs.Steps.{IsInPlace, IsLeastUnused, IsNewNode, Step, StepWith, empty_it, file_at, has, is_nothing, makes_node, opens_one, path_of, refusal, refused}
unfoldable pub use Rattle.plain_tree.specs.Steps.{answer_with, cleared, effect_with, first_free, has_fd, place_of}
pub use Rattle.plain_tree.specs.Tree.{Name, Tree, and_then, climbs, dot, dotdot, hold_names, is_empty, parent, resolve, tree_of}
unfoldable pub use Rattle.plain_tree.specs.Tree.{any_below, file_in, first_slot, follow, is_named, look, settle}
pub use Rattle.plain_tree.specs.TreeData.{TreeData}
pub use Rattle.plain_tree.specs.Widths.{descriptor_count, hart_count, piece_len, root}

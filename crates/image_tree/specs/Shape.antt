-- What an examination says of an image.
use Rattle.std.specs.Prelude.{ℕ, ◌&&◌, not, Bool, List, length}
use Rattle.image_tree.specs.declared.shape.Shape.{Shape}
use Rattle.image_tree.specs.Vocabulary.{sizes_of}
use Rattle.image_tree.specs.Lists.{gathered, count_upto}
use Rattle.image_tree.specs.Inodes.{inode_of, is_node, is_live, named_by, last}

abbrev pub is_live_node : List (List ℕ) → ℕ → Bool
is_live_node disk i = is_node disk i && is_live (inode_of disk i)

-- a node without a name
abbrev pub is_orphan : List (List ℕ) → ℕ → Bool
is_orphan disk i = is_node disk i && not (is_live (inode_of disk i))

abbrev pub shape_of : List (List ℕ) → Shape
shape_of disk = record {
  size = (sizes_of disk).size;
  ninodes = (sizes_of disk).ninodes;
  live = count_upto (is_live_node disk) (last disk);
  orphans = count_upto (is_orphan disk) (last disk);
  blocks = length (gathered (named_by disk) (last disk));
}

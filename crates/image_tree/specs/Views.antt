-- What the checks see of a disk.
use Rattle.std.specs.Prelude.{◌≡◌, ℕ, List}
use Rattle.image_tree.specs.Vocabulary.{Version, sizes_of, SameRecovered}
use Rattle.image_tree.specs.Damage.{UpToLog, IsWellFormed}
use Rattle.image_tree.specs.Trees.{tree_in}

-- the disk passes the checks up to the log's, has its sizes, and recovery leaves the same outside the log
pub record IsViewOf (v : Version) (old new : List (List ℕ)) : Type 0 where
  pub sizes : sizes_of new ≡ sizes_of old
  pub good : UpToLog v new
  pub same : SameRecovered old new

-- if two disks have a good superblock and log, and recovery leaves the same on both outside the log, both are well
-- formed or neither is
abbrev pub ChecksSeeRecovered : Type 0
ChecksSeeRecovered = (v : Version) (old new : List (List ℕ)) → IsViewOf v old new → IsWellFormed v old → IsWellFormed v new

-- and then they hold the same tree
abbrev pub TreesSeeRecovered : Type 0
TreesSeeRecovered = (v : Version) (old new : List (List ℕ)) → IsViewOf v old new → IsWellFormed v old → tree_in v new ≡ tree_in v old

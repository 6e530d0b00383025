-- The law of migrated images.
use Rattle.std.specs.Prelude.{ℕ, List}
use Rattle.migration.specs.Vocabulary.{HasBytes, HasWholeBlocks, Version}
use Rattle.migration.specs.Kept.{migrated}
use Rattle.migration.specs.Migrated.{HoldsTheTree}
use Rattle.migration.specs.Refusals.{CanBeMigrated}

-- what is made of a device's contents is an image, with the same tree
abbrev pub MigratedImagesHoldTheTree : Type 0
MigratedImagesHoldTheTree = (w v : Version) (size : ℕ) (disk : List (List ℕ)) → HasWholeBlocks disk → HasBytes disk → CanBeMigrated w v size disk
    → HoldsTheTree w v disk (migrated w v size disk)

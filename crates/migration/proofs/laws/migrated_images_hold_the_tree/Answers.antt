use Rattle.migration.proofs.MigratedImages.{migrated_images_hold_the_tree}
use Rattle.migration.proofs.laws.migrated_images_hold_the_tree.Goals as goal

pub returns : goal.returns
returns c = migrated_images_hold_the_tree

-- The words that depend on the version, of version 1.
use Rattle.std.specs.Prelude.{List}
use Rattle.tree_laws.specs.Runs.{Event, World}
use Rattle.tree_laws.specs.Runs as runs
use Rattle.image_versions.specs.declared.version.Version.TheVariants.{One}

-- Runs.

abbrev pub Happens : World → Event → World → Type 0
Happens = runs.Happens One

abbrev pub Runs : World → List Event → World → Type 0
Runs = runs.Runs One

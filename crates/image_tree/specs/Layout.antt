-- What is read of a disk first.
use Rattle.std.specs.Prelude.{◌≡◌, ℕ, List}
use Rattle.image_tree.specs.declared.disk.Layout.{Layout}
use Rattle.image_tree.specs.Vocabulary.{sizes_of, logged}
use Rattle.image_tree.specs.Damage.{UpToLog}

pub record IsLayout (disk : List (List ℕ)) (layout : Layout) : Type 0 where
  pub sizes : layout.sizes ≡ sizes_of disk
  pub blocks : layout.head.blocks.items ≡ logged disk
  pub good : UpToLog layout.version disk

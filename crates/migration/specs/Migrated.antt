-- What is taken from the old image, and what is made of it.
use Rattle.std.specs.Prelude.{◌≡◌, ℕ, List, map}
use Rattle.migration.specs.Vocabulary.{IsWellFormed, Version, blocks_of, sizes_of, tree_in}
use Rattle.migration.specs.Nodes.{node_of}
use Rattle.migration.specs.Kept.{migrated, new_nodes}
use Rattle.migration.specs.Refusals.{CanBeMigrated}
use Rattle.migration.specs.declared.taken.Taken.{Taken}

-- an image of version v can be made of what was taken: the nodes as the new image has them
pub record IsTaken (w v : Version) (size : ℕ) (disk : List (List ℕ)) (taken : Taken) : Type 0 where
  pub can : CanBeMigrated w v size disk
  pub ninodes : taken.ninodes ≡ (sizes_of disk).ninodes
  pub nodes : map node_of taken.nodes.items ≡ new_nodes w v disk

-- these bytes are an image of version v, with the tree that the old one has
pub record HoldsTheTree (w v : Version) (disk : List (List ℕ)) (bytes : List ℕ) : Type 0 where
  pub well_formed : IsWellFormed v (blocks_of bytes)
  pub tree : tree_in v (blocks_of bytes) ≡ tree_in w disk

-- exactly the bytes of the image, which is well formed and holds the same tree
pub record IsMigrated (w v : Version) (size : ℕ) (disk : List (List ℕ)) (bytes : List ℕ) : Type 0 where
  pub can : CanBeMigrated w v size disk
  pub bytes_are : bytes ≡ migrated w v size disk
  pub holds : HoldsTheTree w v disk bytes

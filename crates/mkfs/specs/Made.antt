-- A disk that was made.
use Rattle.std.specs.Prelude.{◌≡◌, ℕ, List}
use Rattle.mkfs.specs.Vocabulary.{blocks_of, IsWellFormed, Version, tree_in}
use Rattle.mkfs.specs.Image.{image_of}
use Rattle.mkfs.specs.Refusals.{CanBeMade}
use Rattle.mkfs.specs.Stated.{stated_tree}

-- exactly the bytes of the image of this version, which is well formed in it and holds the stated tree
pub record IsMade (v : Version) (size ninodes : ℕ) (names contents : List (List ℕ)) (disk : List ℕ) : Type 0 where
  pub can : CanBeMade v size ninodes names contents
  pub bytes : disk ≡ image_of v size ninodes names contents
  pub well_formed : IsWellFormed v (blocks_of disk)
  pub tree : tree_in v (blocks_of disk) ≡ stated_tree v ninodes names contents

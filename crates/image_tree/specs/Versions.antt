-- The version of an image.
use Rattle.std.specs.Prelude.{◌≡◌, ℕ, List}
use Rattle.fs_layout.specs.Recovered.{version_in}
use Rattle.image_tree.specs.Vocabulary.{Version}
use Rattle.image_tree.specs.Checks.{HasSuper}

-- an image with a superblock of a version is of that version
abbrev pub SupersTellVersions : Type 0
SupersTellVersions = (v : Version) (disk : List (List ℕ)) → HasSuper v disk → version_in disk ≡ v

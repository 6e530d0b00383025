-- What an inode's record says, as a call hears it.
use Rattle.std.specs.Prelude.{ℤ, Option, None, Some, if◌then◌else◌}
use Rattle.inode_parts.specs.Vocabulary.{Dinode, is_number, is_free, natural, Face, InodeType}
use Rattle.path_walk.specs.declared.asks.InodeType.TheVariants as inode_type

abbrev pub type_by_number : (kind major : ℤ) → InodeType
type_by_number kind major =
    if is_number 1 kind then inode_type.Directory else (if is_number 2 kind then inode_type.File else inode_type.Device major)

abbrev pub face_by : Dinode → Face
face_by d = record { inode_type = type_by_number d.kind d.major; count = natural d.nlink; size = d.size }

-- a free one says nothing
abbrev pub face_unless_free : Dinode → Option Face
face_unless_free d = if is_free d then None else Some (face_by d)

-- What a record says, as it is heard and above.
use Rattle.inode_parts.proofs.Vocabulary.{◌≡◌, ℤ, Bool, true, false, if◌then◌else◌, refl, Dinode, is_number, OfDevice, OfDirectory, OfFile, face_in, inode_type_at, face_of, type_of, face_by, type_by_number}
use Rattle.path_walk.specs.declared.asks.InodeType.TheVariants as inode_type

pub type_same : (kind major : ℤ) → type_of (type_by_number kind major) ≡ inode_type_at kind major
type_same kind major = by (is_number 1 kind) (is_number 2 kind)
  where
    by : (a b : Bool) → type_of (if a then inode_type.Directory else (if b then inode_type.File else inode_type.Device major)) ≡ (if a then OfDirectory else (if b then OfFile else OfDevice major))
    by true b = refl
    by false true = refl
    by false false = refl

pub face_same : (d : Dinode) → face_of (face_by d) ≡ face_in d
face_same d = λ i. record { inode_type = type_same d.kind d.major i; count = (face_in d).count; size = d.size }

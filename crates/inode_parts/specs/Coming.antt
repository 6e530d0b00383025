-- What is in hand while a lock comes there.
use Rattle.std.specs.Prelude.{◌≡◌, None}
use Rattle.inode_parts.specs.Vocabulary.{Hand, InodePlace, inode_at, beside_lock}

-- to this seat, which had none at the start: beside it, and a buffer, all is as it was
abbrev pub Comes : InodePlace → Hand → Hand → Type 0
Comes k start now = (inode_at k start ≡ None) × (start.first ≡ None) × (beside_lock k now ≡ beside_lock k start)

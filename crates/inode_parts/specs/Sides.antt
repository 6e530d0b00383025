-- What is in hand of one inode, and beside it what is at the other seat.
use Rattle.std.specs.Prelude.{◌≡◌, ℕ, List, Option, IfSome}
use Rattle.inode_parts.specs.Vocabulary.{GuardState, Inode, Hand, InodePlace, inode_at, Apart, Carry}
use Rattle.inode_parts.specs.Carries.{had_at, note_at}
use Rattle.inode_parts.specs.OneSteps.{other}
use Rattle.inode_parts.specs.declared.note.Notes.{Notes}

-- what is at the other seat alone
abbrev pub beside_in : List ℕ → Notes → InodePlace → Hand → Carry
beside_in path m k h i = had_at path (note_at (other k) m) (inode_at (other k) h) i Apart

-- a lock, if there is one, is that of inode n
abbrev pub IsOf : ℕ → Option (GuardState Inode) → Type 0
IsOf n o = IfSome o (λ g. g.value.number ≡ n)

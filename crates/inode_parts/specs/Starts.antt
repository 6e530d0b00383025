-- How a part starts.
use Rattle.std.specs.Prelude.{◌≡◌, ℕ, List}
use Rattle.inode_parts.specs.Vocabulary.{Super, Hand, bare}
use Rattle.inode_machine.specs.World as above
pub use Rattle.inode_parts.specs.Carries.{carry_in}
pub use Rattle.inode_parts.specs.InodeParts.{part_left, PartReady, PartTold}
pub use Rattle.inode_parts.specs.Leaving.{having}
pub use Rattle.inode_parts.specs.Parts.{IsPart}
pub use Rattle.inode_parts.specs.UnderWay.{UnderWay}
pub use Rattle.inode_parts.specs.declared.note.Notes.{Notes}
use Rattle.inode_parts.specs.declared.part.InodePart.{InodePart}

-- All of this operation is before a part that asks nothing of a call's text, on a disk of these sizes. The hand was
-- so, and is so then.
pub record HasStarted (sizes : Super) (op : above.Op) (before : Hand) (p : InodePart) (after : Hand) : Type 0 where
  pub part : (path : List ℕ) (m : Notes) → IsPart sizes (carry_in path m before) op (part_left path m p after)
  pub ready : PartReady p after
  pub told : (first second : List ℕ) → PartTold first second p
  pub under : (path : List ℕ) (m : Notes) → UnderWay sizes.version path op (having before m) p (having after m)
  pub hand : bare after ≡ bare before

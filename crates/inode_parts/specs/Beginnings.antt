-- How an operation on whole inodes begins as a part.
use Rattle.std.specs.Prelude.{◌≡◌, ◌++◌, ℕ, List}
use Rattle.inode_parts.specs.Vocabulary.{Super, Hand, Ask, above_op, bare}
use Rattle.inode_parts.specs.Carries.{carry_in}
use Rattle.inode_parts.specs.Enters.{AskStands}
use Rattle.inode_parts.specs.Expecting.{BeginsWith}
use Rattle.inode_parts.specs.InodeParts.{part_for, part_left, AskTold, FillsAs, PartReady, PartTold}
use Rattle.inode_parts.specs.Leaving.{having}
use Rattle.inode_parts.specs.OneSteps.{Begins}
use Rattle.inode_parts.specs.Parts.{IsPart}
use Rattle.inode_parts.specs.Sizes.{IsSized}
use Rattle.inode_parts.specs.UnderWay.{UnderWay}
use Rattle.inode_parts.specs.declared.note.Notes.{Notes}
use Rattle.inode_parts.specs.declared.part.InodePart.{InodePart}

-- on a disk of these sizes, in a call with this path and a second one after it, the hand has what the ask's operation
-- takes
pub record PartMayBegin (sizes : Super) (first second : List ℕ) (a : Ask) (m : Notes) (h : Hand) : Type 0 where
  pub sized : IsSized sizes
  pub begins : BeginsWith sizes.version (first ++ second) (above_op (first ++ second) a) (having h m)
  pub stands : AskStands sizes.version first second a
  pub told : AskTold sizes.version first second a

-- its part has begun: all of the operation is before it
pub record PartHasBegun (sizes : Super) (first second : List ℕ) (a : Ask) (m : Notes) (before : Hand) (p : InodePart) (after : Hand) : Type 0 where
  pub part : IsPart sizes (carry_in (first ++ second) m before) (above_op (first ++ second) a) (part_left (first ++ second) m p after)
  pub ready : PartReady p after
  pub told : PartTold first second p
  pub fills : FillsAs a (first ++ second) (part_left (first ++ second) m p after)
  pub known : Begins (above_op (first ++ second) a) before → (p ≡ part_for (above_op (first ++ second) a) before) × (after ≡ before)
  pub under : UnderWay sizes.version (first ++ second) (above_op (first ++ second) a) (having before m) p (having after m)
  pub hand : bare after ≡ bare before

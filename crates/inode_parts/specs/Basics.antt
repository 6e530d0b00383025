-- The words that most of this crate's other definitions use.
pub use Rattle.inode_parts.specs.Carries.{carry_in, had_of, handed, note_at, with_note}
pub use Rattle.inode_parts.specs.Changes.{IsAmid, MayChange, changed, rewritten}
pub use Rattle.inode_parts.specs.Coming.{Comes}
pub use Rattle.inode_parts.specs.Faces.{face_by, face_unless_free}
pub use Rattle.inode_parts.specs.LockedFiles.{IsOnly, moved}
pub use Rattle.inode_parts.specs.OneSteps.{Begins, HasFreeSeat, HasLock, HasReference, IsAlone, StepReady, free_seat, other, seat_of_lock, seat_of_reference, step_asked, step_for, step_left}
pub use Rattle.inode_parts.specs.Parts.{Message, Part, hears_in, lowered}
pub use Rattle.inode_parts.specs.Sides.{beside_in}
pub use Rattle.inode_parts.specs.Sizes.{IsSized}
pub use Rattle.inode_parts.specs.Texts.{StandsIn}

-- Names entered within what their call's transactions may record.
use Rattle.inodes_on_blocks.proofs.Vocabulary.{[], ◌<◌, arith, ℕ, Bool, Option, refl, Super, Name, hart_count, Laws, with_bitmap, with_inode as with_record, Enter, Fill, Answers, IsDone, alone, enter, fill, Labels, labelled, Keeps, ActsWithin, DoesItWithin}
use Rattle.inode_machine.specs.World as above
use Rattle.inodes_on_blocks.proofs.Basics.{alone_keeps, alone_laws, lasts_done, both_more, record_spent}
use Rattle.inodes_on_blocks.proofs.EnterSteps.{enter_acts}
use Rattle.inodes_on_blocks.proofs.FillSteps.{fill_acts}

module _ (sizes : Super) (l : Labels) (laws : Laws (labelled sizes.version l)) (keeps : Keeps l) (h : ℕ) (lt : h < hart_count) where
  pub fill_within : (n d : ℕ) (m : Bool → Option above.Mark) → ActsWithin sizes l h (Fill n d) m (fill sizes n d)
  fill_within n d m c s B C es w lasts todo stands few has =
      fill_acts sizes l laws keeps h lt n d m (with_record n (with_bitmap s)) refl (record_spent sizes n (with_bitmap s)) (omega (arith, few)) c B C lasts es w todo stands (has.0, both_more h n s w.real has.1)

  pub enter_within : (d : ℕ) (e : Name) (n : ℕ) (m : above.EntryResult → Option above.Mark) → ActsWithin sizes l h (Enter d e n) m (enter sizes d e n)
  enter_within d e n m c s B C es w lasts todo stands few has =
      enter_acts sizes l laws keeps h lt d e n m (with_record d (with_bitmap s)) refl (record_spent sizes d (with_bitmap s)) (omega (arith, few)) c B C lasts es w todo stands (has.0, both_more h d s w.real has.1)

-- with the history that is the operations themselves
pub fills_within : (sizes : Super) (n d : ℕ) → DoesItWithin sizes (Fill n d) (fill sizes n d)
fills_within sizes n d h s m c w lt few todo stands known =
    fill_within sizes alone (alone_laws sizes.version) alone_keeps h lt n d m c s (IsDone (Fill n d)) (Answers (Fill n d)) [] w (lasts_done sizes.version (Fill n d) h) todo stands few (stands.1, known)

pub enters_within : (sizes : Super) (d : ℕ) (e : Name) (n : ℕ) → DoesItWithin sizes (Enter d e n) (enter sizes d e n)
enters_within sizes d e n h s m c w lt few todo stands known =
    enter_within sizes alone (alone_laws sizes.version) alone_keeps h lt d e n m c s (IsDone (Enter d e n)) (Answers (Enter d e n)) [] w (lasts_done sizes.version (Enter d e n) h) todo stands few (stands.1, known)

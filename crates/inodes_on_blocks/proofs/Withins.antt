-- The operations below within what their call's transactions may record, and whole calls.
use Rattle.inodes_on_blocks.proofs.Vocabulary.{[], ◌<◌, arith, ◌≡◌, ℕ, suc, true, false, is_some, Option, Some, None, sym, ◌∙◌, ap, get_or_from_slice_get, Super, Name, hart_count, Ret, Do, Laws, P, Affords, inode_block, Clear, Empty, Store, Spent, most_recorded, size, unspent, spent_after, with_bitmap, with_contents, with_inode as with_record, more, World, log_of, Shows, Labels, labelled, Keeps, Handler, empty, store, clear, ActsOnceAt, Answers, IsDone, alone, HasSpent, recorded_blocks, Spends, ActsWithin, RecordingsStayWithin, Version}
use Rattle.inode_machine.specs.World as above
use Rattle.inode_machine.specs.World.Op.{Free}
use Rattle.inode_machine.specs.Budget.{HasRoom}
use Rattle.inodes_on_blocks.specs.Emptying.{free}
use Rattle.inodes_on_blocks.proofs.Basics.{alone_keeps, alone_laws, lasts_done, bitmap_spent, both_more, other_spends, record_more, record_spent, spent_gives}
use Rattle.inodes_on_blocks.proofs.ClearSteps.{clear_acts}
use Rattle.inodes_on_blocks.proofs.EmptySteps.{empty_acts}
use Rattle.inodes_on_blocks.proofs.FreeSteps.{free_acts}
use Rattle.inodes_on_blocks.proofs.StoreSteps.{store_acts}
use Rattle.inodes_on_blocks.proofs.Spending.{stays_within}
use Rattle.inodes_on_blocks.proofs.Spends.{programs_spend}

module _ (sizes : Super) (l : Labels) (laws : Laws (labelled sizes.version l)) (keeps : Keeps l) (h : ℕ) (lt : h < hart_count) where
  -- one whose law asks for no room
  pub acts_within : (op : above.Op) (m : above.Answer op → Option above.Mark) (p : Handler op) → Spends sizes op p → ActsOnceAt sizes l h op m p → ActsWithin sizes l h op m p
  acts_within op m p spends acts c s B C es w lasts todo stands few has = stays_within sizes l h op m p spends c s B C (suc (more op)) es w (acts c B C es w lasts todo stands) has

  -- those that record
  pub store_within : (n count : ℕ) (m : Unit {0} → Option above.Mark) → ActsWithin sizes l h (Store n count) m (store sizes n count)
  store_within n count m c s B C es w lasts todo stands few has =
      let t = spent_after (Store n count) s in
      stays_within sizes l h (Store n count) m (store sizes n count) ((programs_spend sizes).store n count) c s B C (suc (more (Store n count))) es w
      (store_acts sizes l laws keeps h lt n count m (HasSpent sizes h t) (spent_gives sizes h (inode_block sizes.inodestart n) t (record_spent sizes n s) few).gives c B C es w lasts todo stands (stands.1, record_more h n s w.real has.1)) has

  pub clear_within : (n : ℕ) (e : Name) (m : Unit {0} → Option above.Mark) → ActsWithin sizes l h (Clear n e) m (clear sizes n e)
  clear_within n e m c s B C es w lasts todo stands few has =
      let t = with_record n s in
      let one : size t < most_recorded = omega (arith, few) in
      stays_within sizes l h (Clear n e) m (clear sizes n e) ((programs_spend sizes).clear n e) c s B C (suc (more (Clear n e))) es w
      (clear_acts sizes l laws keeps h lt n e m (HasSpent sizes h t) (HasSpent sizes h (with_contents 1 t)) (λ b. other_spends sizes h b t one)
      (spent_gives sizes h (inode_block sizes.inodestart n) (with_contents 1 t) (record_spent sizes n (with_contents 1 s)) few).gives c B C lasts es w todo stands (stands.1, record_more h n s w.real has.1)) has

  pub empty_within : (n : ℕ) (m : Unit {0} → Option above.Mark) → ActsWithin sizes l h (Empty n) m (empty sizes n)
  empty_within n m c s B C es w lasts todo stands few has =
      let t = spent_after (Empty n) s in
      stays_within sizes l h (Empty n) m (empty sizes n) ((programs_spend sizes).empty n) c s B C (suc (more (Empty n))) es w
      (empty_acts sizes l laws keeps h lt n m (HasSpent sizes h t) (spent_gives sizes h sizes.bmapstart t (bitmap_spent sizes n s) few) (spent_gives sizes h (inode_block sizes.inodestart n) t (record_spent sizes n (with_bitmap s)) few).gives c B C es w lasts todo stands
      (stands.1, both_more h n s w.real has.1)) has

  pub free_within : (n : ℕ) (m : Unit {0} → Option above.Mark) → ActsWithin sizes l h (Free n) m (free sizes n)
  free_within n m c s B C es w lasts todo stands few has =
      let t = spent_after (Free n) s in
      stays_within sizes l h (Free n) m (free sizes n) ((programs_spend sizes).free n) c s B C (suc (more (Free n))) es w
      (free_acts sizes l laws keeps h lt n m (HasSpent sizes h t) (spent_gives sizes h sizes.bmapstart t (bitmap_spent sizes n s) few) (spent_gives sizes h (inode_block sizes.inodestart n) t (record_spent sizes n (with_bitmap s)) few) c B C es w lasts todo stands
      (stands.1, both_more h n s w.real has.1)) has

-- with the history that is the operations themselves
pub recordings_stay_within : (sizes : Super) → RecordingsStayWithin sizes
recordings_stay_within sizes = record {
  store = λ n count h s m c w lt few todo stands known.
      store_within sizes alone (alone_laws sizes.version) alone_keeps h lt n count m c s (IsDone (Store n count)) (Answers (Store n count)) [] w (lasts_done sizes.version (Store n count) h) todo stands few (stands.1, known);
  clear = λ n e h s m c w lt few todo stands known.
      clear_within sizes alone (alone_laws sizes.version) alone_keeps h lt n e m c s (IsDone (Clear n e)) (Answers (Clear n e)) [] w (lasts_done sizes.version (Clear n e) h) todo stands few (stands.1, known);
  empty = λ n h s m c w lt few todo stands known. empty_within sizes alone (alone_laws sizes.version) alone_keeps h lt n m c s (IsDone (Empty n)) (Answers (Empty n)) [] w (lasts_done sizes.version (Empty n) h) todo stands few (stands.1, known);
  free = λ n h s m c w lt few todo stands known. free_within sizes alone (alone_laws sizes.version) alone_keeps h lt n m c s (IsDone (Free n)) (Answers (Free n)) [] w (lasts_done sizes.version (Free n) h) todo stands few (stands.1, known);
}

-- ---- whole calls

-- a program with room for each of its operations affords them
pub affords : (version : Version) (l : Labels) {A : Type 0} (p : P (labelled version l) A) (s : Spent) → HasRoom s p → Affords (labelled version l) (recorded_blocks version l) s p
affords version l (Ret a) s room = tt
affords version l (Do op m k) s room = (room.0, λ a. affords version l (k a) (spent_after op s) (room.1 a))

-- a hart that is in no transaction above has spent nothing
pub none_spent : (sizes : Super) (h : ℕ) (r : World) (g : above.World) → h < hart_count → Shows r g → (g.desks h).joined ≡ false → (log_of r).sizes ≡ sizes → HasSpent sizes h unspent r
none_spent sizes h r g lt shows out at = (at, λ k e. absurd (let q : false ≡ true = sym out ∙ shows.members h lt ∙ ap is_some (get_or_from_slice_get (log_of r).members h (Some k) None e) in cc q))

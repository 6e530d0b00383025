-- The kept tree's stage and book go on by a step's move as the theory's stage and history do, and what is known of room stays as it was.
use Rattle.std.specs.Prelude.{◌≡◌, ℕ, zero, suc, List, Option, Some, None}
use Rattle.calls_on_blocks.proofs.Vocabulary.{refl, sym, ◌∙◌, ap, subst, inl, inr}
use Rattle.inode_machine.specs.Kept.{told_of}
use Rattle.inode_machine.specs.Kept.{stage_by, told_by_move}
use Rattle.inode_machine.specs.Making.{IsMade, MakesPlaced, MayMake, OpensLeast}
use Rattle.inode_machine.specs.MoveCalls.{MoveMachine}
use Rattle.inode_machine.specs.Vocabulary.{MoveStep}
use Rattle.path_walk.specs.declared.asks.Mark.{Mark}
use Rattle.tree_histories.specs.Books.{IsBook}
use Rattle.tree_histories.specs.Keeping.{KeptTree, Under, hart_in, stage_of}
use Rattle.tree_histories.specs.Moving.{IsMoved, MovesByAny}
use Rattle.tree_laws.specs.History.{History}
use Rattle.tree_laws.specs.Moves.{Deed, Stage}
use Rattle.tree_laws.specs.Runs.{all_fall, lost_of, moves_on, unless}
use Rattle.tree_laws.specs.Vocabulary.{hart_count}
use Rattle.whole_calls.specs.Wholes.{action_in}
use Rattle.kept_histories.proofs.Marks.{PlacesAlike, moves, stays}

-- ---- an event without a move

none_falls : (n : Stage) (g : ℕ) (d : Option Deed) → unless d d ≡ None
none_falls n g None = refl
none_falls n g (Some d) = refl

pub all_stand : (n : Stage) (count : ℕ) (b : History) → all_fall n n count b ≡ b
unfolding all_fall
all_stand n zero b = refl
all_stand n (suc count) b = rw (none_falls n count (lost_of n count)) (all_stand n count b)

unless_none : (d : Option Deed) → unless d None ≡ None
unless_none None = refl
unless_none (Some d) = refl

pub nothing_moves : (n : Stage) (h : ℕ) (b : History) → moves_on n n h None b ≡ b
nothing_moves n h b = rw (unless_none (lost_of n h)) (all_stand n hart_count b)

-- ---- a step

module _ (N : MoveMachine) (h : ℕ) (k : KeptTree) (n n' : Stage) (ps : List (ℕ × MoveStep)) (stands : stage_of k ≡ n) (makes : MakesPlaced k.version h n ps n')
    (v : Under) (is : hart_in k h ≡ Some v) (o : Option Mark) (between : KeptTree) (by : MovesByAny k h o between) where
  pub record MovedOn : Type 0 where
    pub stage : stage_of between ≡ n'
    pub book : (b : History) → IsBook k b → IsBook between (moves_on n n' h (told_of N ps) b)
    pub full : between.full ≡ k.full

  pub moved_on : PlacesAlike h ps (action_in v.whole) o → MovedOn
  moved_on (inl none) =
      let same : between ≡ k = stays k h (action_in v.whole) o between none.1 none.2 by in
      let still : n' ≡ n = subst (λ (z : List (ℕ × MoveStep)). MakesPlaced k.version h n z n') none.0 makes in
      record {
        stage = ap stage_of same ∙ stands ∙ sym still;
        book = λ b book.
            subst (λ (z : List (ℕ × MoveStep)). IsBook between (moves_on n n' h (told_of N z) b)) (sym none.0)
            (subst (λ (z : Stage). IsBook between (moves_on n z h None b)) (sym still)
            (subst (IsBook between) (sym (nothing_moves n h b)) (subst (λ (z : KeptTree). IsBook z b) (sym same) book)));
        full = ap (λ (z : KeptTree). z.full) same;
      }
  moved_on (inr one) =
      let e : MoveStep = record { move = one.0; told = one.1 } in
      let made : IsMade k.version n h e n' = (subst (λ (z : List (ℕ × MoveStep)). MakesPlaced k.version h n z n') one.2 makes).2 in
      let went : IsMoved k h one.0 between = moves k h v one.0 o between is one.3 (subst (λ (z : Stage). MayMake k.version z h one.0) (sym stands) made.may) by in
      let least : OpensLeast k.version n h went.id one.0 = subst (λ (z : Stage). OpensLeast k.version z h went.id one.0) stands went.least in
      let to : n' ≡ stage_by k.version n h went.id one.0 = made.stage went.id least in
      let told : one.1 ≡ told_by_move k.version n h went.id one.0 = made.told went.id least in
      record {
        stage = went.stage ∙ ap (λ (z : Stage). stage_by k.version z h went.id one.0) stands ∙ sym to;
        book = λ b book.
            subst (λ (z : List (ℕ × MoveStep)). IsBook between (moves_on n n' h (told_of N z) b)) (sym one.2)
            (subst (λ (d : Option Deed). IsBook between (moves_on n n' h d b)) (sym told)
            (subst (λ (z : Stage). IsBook between (moves_on n z h (told_by_move k.version n h went.id one.0) b)) (sym to)
            (subst (λ (z : Stage). IsBook between (moves_on z (stage_by k.version z h went.id one.0) h (told_by_move k.version z h went.id one.0) b)) stands
            (went.book b book))));
        full = went.full;
      }

-- A step that acted on the tree, as the move of a walk makes it.
use Rattle.tree_histories.proofs.Vocabulary.{Version, ◌≡◌, ℕ, Bool, true, false, nat_lt, Option, Some, None, refl, sym, ◌∙◌, ap, Cause, Call, Action, StepAnswer, TreeStep, IsAppliedAtWith, IsBadChoiceWith, Outcome, applied_with, in_place_with, IsInPlace, IsLeastUnused, IsNewNode, is_nothing, makes_node, opens_one, place_of, refusal_with, refused, Name, Tree, settle, hart_count, and_true, Made, act_all, act_answer, act_entered, acts, own_made, Deed, ActedOn, ActsSo, step_for}
use Rattle.plain_tree.specs.declared.call.Call.TheVariants as calls
use Rattle.inode_machine.proofs.MadeMoves.{own_opened, refused_settles}

-- a step that isn't a raise changes nothing where it is refused
pub refused_same : (t : Tree) (h : ℕ) (c : Call) (b : Bool) → refused t h (step_for c b) ≡ t
refused_same t h (calls.Link old new) true = refl
refused_same t h (calls.Link old new) false = refl
refused_same t h (calls.Open path flags) b = refl
refused_same t h (calls.Read fd buf) b = refl
refused_same t h (calls.Write fd bytes) b = refl
refused_same t h (calls.Unlink path) b = refl
refused_same t h (calls.Mkdir path) b = refl
refused_same t h (calls.Chdir path) b = refl
refused_same t h (calls.Dup fd) b = refl
refused_same t h (calls.Fstat fd) b = refl
refused_same t h (calls.Close fd) b = refl
refused_same t h (calls.Inherit child) b = refl

-- a step in its place
applied_place : (version : Version) (t : Tree) (s : TreeStep) (res : Option ℕ) (par : Option (ℕ × Name)) (id : ℕ) → IsInPlace t s.hart s.action
    → applied_with version t s res par id ≡ in_place_with version t s res par (refusal_with version t s.hart s.action res par) id
applied_place version t s res par id place =
    let both : (nat_lt s.hart hart_count ≡ true) × (place_of t s.hart s.action ≡ true) = and_true (nat_lt s.hart hart_count) (place_of t s.hart s.action) place in
    rw (both.0, both.1) refl

module _ (version : Version) (t : Tree) (s : TreeStep) (R : Option ℕ) (Q : Option (ℕ × Name)) where
  answer_in : (id : ℕ) (o : Option Cause) → (in_place_with version t s R Q o id).answer ≡ act_answer version o t s.hart s.action R Q id
  answer_in id None = refl
  answer_in id (Some k) = refl

  pub answer_of : (id : ℕ) (a : StepAnswer) (t' : Tree) → IsInPlace t s.hart s.action → IsAppliedAtWith version t s R Q id a t'
      → a ≡ act_answer version (refusal_with version t s.hart s.action R Q) t s.hart s.action R Q id
  answer_of id a t' place is =
      sym (ap (λ (z : Outcome). z.answer) is.is) ∙ (ap (λ (z : Outcome). z.answer) (applied_place version t s R Q id place) ∙ answer_in id (refusal_with version t s.hart s.action R Q))

-- what an own step reports is reported if it is refused, too
pub own_told : (t : Tree) (h : ℕ) (s : Action) (o : Option Cause) (m : Made) → (own_made o t h s m).told ≡ m.told
own_told t h s None m = refl
own_told t h s (Some k) m = refl

-- the tree after a step and what it reports are those of what a move makes. The id of a new open file is the least
-- that is unused; and its walk is over
pub record EndsAs (t : Tree) (x : ℕ → Made) (d : Option Deed) (t' : Tree) : Type 0 where
  pub id : ℕ
  pub least : (x id).opened ≡ Some id → IsLeastUnused t id
  pub tree : t' ≡ settle (x id).all
  pub told : d ≡ (x id).told
  pub walk : (x id).walk ≡ None
  pub acted : is_nothing d ≡ false

-- R, Q: what was found for the step's path
module _ (version : Version) (t : Tree) (h : ℕ) (s : Action) (new : ℕ) (t' : Tree) (settled : settle t ≡ t) (R : Option ℕ) (Q : Option (ℕ × Name)) where
  abbrev st : TreeStep
  st = record { hart = h; new = new; action = s }

  act_tree : refused t h s ≡ t → (id : ℕ) (o : Option Cause) → (in_place_with version t st R Q o id).tree ≡ settle (act_all version o t h s R Q new id)
  act_tree same id None = refl
  act_tree same id (Some k) = same ∙ sym settled

  own_tree : (id : ℕ) (o : Option Cause) → o ≡ refusal_with version t h s R Q → (in_place_with version t st R Q o id).tree ≡ settle (own_made o t h s (acts version t h s R Q new id)).all
  own_tree id None is = ap (λ (z : Option Cause). settle (act_all version z t h s R Q new id)) is
  own_tree id (Some k) is = refused_settles t h s settled

  tree_after : (id : ℕ) (a : StepAnswer) → IsInPlace t h s → IsAppliedAtWith version t st R Q id a t' → t' ≡ (in_place_with version t st R Q (refusal_with version t h s R Q) id).tree
  tree_after id a place is = sym (ap (λ (z : Outcome). z.tree) is.is) ∙ ap (λ (z : Outcome). z.tree) (applied_place version t st R Q id place)

  abbrev deed : Action → StepAnswer → ℕ → Deed
  deed b a n = record { act = record { step = b; answer = a }; new = n }

  told_so : (d : Deed) → IsInPlace t h s → (x : ActedOn version st R Q t (Some d) t') → ◌≡◌ {A = Option Deed} (Some d) (Some (deed s (act_answer version (refusal_with version t h s R Q) t h s R Q x.2.id) new))
  told_so d place x =
      ap (λ (b : Action). Some (deed b d.act.answer d.new)) x.0
      ∙ (ap (λ (a : StepAnswer). Some (deed s a d.new)) (answer_of version t st R Q x.2.id d.act.answer t' place x.2.made)
      ∙ ap (λ (n : ℕ). Some (deed s (act_answer version (refusal_with version t h s R Q) t h s R Q x.2.id) n)) x.1)

  never_bad : {A : Type 0} → IsBadChoiceWith version t st R Q → (refusal_with version t h s R Q ≡ None → makes_node t s Q ≡ true → IsNewNode t new) → A
  never_bad bad node = absurd (bad.bad (node bad.not_refused bad.makes))

  opens : (b : Bool) (r : Option Cause) (id : ℕ) → act_entered r b id ≡ Some id → b ≡ true
  opens true r id e = refl
  opens false None id e = absurd cc
  opens false (Some k) id e = absurd cc

  ends_here : (d : Option Deed) → refused t h s ≡ t → IsInPlace t h s → (refusal_with version t h s R Q ≡ None → makes_node t s Q ≡ true → IsNewNode t new) → ActedOn version st R Q t d t'
      → EndsAs t (λ id. acts version t h s R Q new id) d t'
  ends_here None same place node x = never_bad x.0 node
  ends_here (Some d) same place node x = record {
    id = x.2.id;
    least = λ e. x.2.least (opens (opens_one t h s) (refusal_with version t h s R Q) x.2.id e);
    tree = tree_after x.2.id d.act.answer place x.2.made ∙ act_tree same x.2.id (refusal_with version t h s R Q);
    told = told_so d place x;
    walk = refl;
    acted = refl;
  }

  -- a step of a walk
  pub ends_so : (d : Option Deed) → refused t h s ≡ t → ActsSo version t h s R Q new → ActedOn version st R Q t d t' → EndsAs t (λ id. acts version t h s R Q new id) d t'
  ends_so d same so x = ends_here d same so.place so.node x

  own_walk : (o : Option Cause) (m : Made) → (own_made o t h s m).walk ≡ m.walk
  own_walk None m = refl
  own_walk (Some k) m = refl

  -- a step without a path
  pub ends_own : (d : Option Deed) → ActsSo version t h s R Q new → ActedOn version st R Q t d t' → EndsAs t (λ id. own_made (refusal_with version t h s R Q) t h s (acts version t h s R Q new id)) d t'
  ends_own None so x = never_bad x.0 so.node
  ends_own (Some d) so x = record {
    id = x.2.id;
    least = λ e. x.2.least (opens (opens_one t h s) (refusal_with version t h s R Q) x.2.id (sym (own_opened t h s (acts version t h s R Q new x.2.id) (refusal_with version t h s R Q)) ∙ e));
    tree = tree_after x.2.id d.act.answer so.place x.2.made ∙ own_tree x.2.id (refusal_with version t h s R Q) refl;
    told = told_so d so.place x ∙ sym (own_told t h s (refusal_with version t h s R Q) (acts version t h s R Q new x.2.id));
    walk = own_walk (refusal_with version t h s R Q) (acts version t h s R Q new x.2.id);
    acted = refl;
  }

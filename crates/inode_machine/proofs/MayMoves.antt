-- A move that is played is one that the hart may make, and there is an id for a file that it opens.
use Rattle.image_versions.specs.declared.version.Version.{Version}
use Rattle.inode_machine.proofs.Vocabulary.{◌≡◌, ℕ, zero, suc, ◌<◌, ◌≤◌, ◌^◌, Bool, true, false, List, [], ◌∷◌, Option, Some, None, refl, sym, ◌∙◌, subst, arith, if◌then◌else◌, Cause, Action, StepAnswer, Failed, Opened, Bytes, Status, NewFd, Done, NoRoom, Name, Tree, elements, look, start_of, resolve, parent, path_of, opens_one, refusal_with, IsInPlace, IsLeastUnused, MayChoose, StepWith, Walk, Stage, Move, Deed, Acts, LookupLeadsTo, Begin, Look, GiveUpWalk, OwnMove, act_entered, acts, begun, looked, look_made}
use Rattle.tree_laws.specs.Moves.{StartLeadsTo, Plays}
use Rattle.inode_machine.specs.Making.{ActsSo, MayBegin, MayLook, MayLookOn, MayMove, OpensLeast}
use Rattle.inode_machine.specs.MoveCalls.{IsOfRange}
use Rattle.inode_machine.proofs.MadeMoves.{Takes, own_opened}
use Rattle.plain_tree.specs.Steps.{refusal}

-- ---- a step

step_place : (version : Version) (t t' : Tree) (h : ℕ) (s : Action) (res : Option ℕ) (par : Option (ℕ × Name)) (a : StepAnswer) (new id : ℕ) → StepWith version t h s res par a new id t' → IsInPlace t h s
step_place version t t' h s res par (Failed k) new id x = x.2
step_place version t t' h s res par (Opened fd j f) new id x = x.4
step_place version t t' h s res par (Bytes b) new id x = x.4
step_place version t t' h s res par (Status y) new id x = x.4
step_place version t t' h s res par (NewFd fd) new id x = x.4
step_place version t t' h s res par Done new id x = x.4
step_place version t t' h s res par (NoRoom f) new id x = x.4

-- what it takes if it isn't refused
step_choice : (version : Version) (t t' : Tree) (h : ℕ) (s : Action) (res : Option ℕ) (par : Option (ℕ × Name)) (a : StepAnswer) (new id : ℕ) → StepWith version t h s res par a new id t' → refusal_with version t h s res par ≡ None → MayChoose t h s par new id
step_choice version t t' h s res par (Failed k) new id x none = absurd (let some : refusal_with version t h s res par ≡ Some k = x.0 in cc (some, none))
step_choice version t t' h s res par (Opened fd j f) new id x none = x.2
step_choice version t t' h s res par (Bytes b) new id x none = x.2
step_choice version t t' h s res par (Status y) new id x none = x.2
step_choice version t t' h s res par (NewFd fd) new id x none = x.2
step_choice version t t' h s res par Done new id x none = x.2
step_choice version t t' h s res par (NoRoom f) new id x none = x.2

acts_may : (version : Version) (m m' : Stage) (h : ℕ) (s : Action) (res : Option ℕ) (par : Option (ℕ × Name)) (new : ℕ) (told : Option Deed) → Acts version m h s res par new told m' → ActsSo version m.tree h s res par new
acts_may version m m' h s res par new told k = record {
  place = step_place version m.tree m'.tree h s res par k.answer new k.id k.step;
  node = λ none makes. (step_choice version m.tree m'.tree h s res par k.answer new k.id k.step none).node makes;
}

-- the id of a file that it opened
acts_least : (version : Version) (m m' : Stage) (h : ℕ) (s : Action) (res : Option ℕ) (par : Option (ℕ × Name)) (new : ℕ) (told : Option Deed) → (k : Acts version m h s res par new told m') → Takes version m.tree h s res par k.id
acts_least version m m' h s res par new told k q = by (refusal_with version m.tree h s res par) refl q
  where
    opens : (b : Bool) → ◌≡◌ {A = Option ℕ} (if b then Some k.id else None) (Some k.id) → b ≡ true
    opens true e = refl
    opens false e = absurd cc

    by : (r : Option Cause) → refusal_with version m.tree h s res par ≡ r → act_entered r (opens_one m.tree h s) k.id ≡ Some k.id → IsLeastUnused m.tree k.id
    by (Some c) is e = absurd cc
    by None is e = (step_choice version m.tree m'.tree h s res par k.answer new k.id k.step is).file (opens (opens_one m.tree h s) e)

-- ---- a move

-- an id for a file that is opened
pub record HasId (version : Version) (m : Stage) (h : ℕ) (v : Move) : Type 0 where
  pub id : ℕ
  pub least : OpensLeast version m h id v

module _ (version : Version) (m m' : Stage) (h : ℕ) (told : Option Deed) where
  begun_may : (s : Action) (es : List Name) (new : ℕ) → StartLeadsTo version m h s es new told m' → MayBegin version m.tree h s es new
  begun_may s [] new k = acts_may version m m' h s (Some (start_of m.tree h (path_of s))) None new told k
  begun_may s (e ∷ es) new k = tt

  looked_may : (w : Walk) (rest : List Name) (found : Option ℕ) (new : ℕ) → LookupLeadsTo version m h w rest found new told m' → MayLook version m.tree h w rest found new
  looked_may w [] found new k = acts_may version m m' h w.step found (Some (w.at, w.next)) new told k
  looked_may w (e ∷ es) None new k = acts_may version m m' h w.step None None new told k
  looked_may w (e ∷ es) (Some n) new k = tt

  in_range : (new : ℕ) → m.tree.ninodes ≤ 2 ^ 16 → IsOfRange m (Look new) → new < 2 ^ 16
  in_range zero few r = omega arith
  in_range (suc n) few r = omega (arith, few, r)

  pub plays_may : (v : Move) → m.tree.ninodes ≤ 2 ^ 16 → IsOfRange m v → Plays version m h v told m' → MayMove version m h v
  plays_may (Begin s new) few r k = begun_may s (elements version (path_of s)) new k.begins
  plays_may (Look new) few r k =
      (subst (λ (o : Option Walk). MayLookOn version m.tree h o new) (sym k.is) (k.live, looked_may k.walk k.walk.rest (look m.tree.nodes k.walk.at k.walk.next) new k.looks), in_range new few r)
  plays_may (GiveUpWalk s) few r k = tt
  plays_may (OwnMove s new) few r k = acts_may version m m' h s (resolve version m.tree h (path_of s)) (parent version m.tree h (path_of s)) new told k.acts

  -- ---- an id

  begun_id : (s : Action) (es : List Name) (new : ℕ) → StartLeadsTo version m h s es new told m' → (id : ℕ) × ((begun version m.tree h s es new id).opened ≡ Some id → IsLeastUnused m.tree id)
  begun_id s [] new k = (k.id, acts_least version m m' h s (Some (start_of m.tree h (path_of s))) None new told k)
  begun_id s (e ∷ es) new k = (0, λ q. absurd cc)

  looked_id : (w : Walk) (es : List Name) (found : Option ℕ) (new : ℕ) → LookupLeadsTo version m h w es found new told m' → (id : ℕ) × ((looked version m.tree h w es found new id).opened ≡ Some id → IsLeastUnused m.tree id)
  looked_id w [] found new k = (k.id, acts_least version m m' h w.step found (Some (w.at, w.next)) new told k)
  looked_id w (e ∷ es) None new k = (k.id, acts_least version m m' h w.step None None new told k)
  looked_id w (e ∷ es) (Some n) new k = (0, λ q. absurd cc)

  look_id : (w : Walk) (o : Option Walk) (new : ℕ) → o ≡ Some w → LookupLeadsTo version m h w w.rest (look m.tree.nodes w.at w.next) new told m' → (id : ℕ) × ((look_made version m.tree h o new id).opened ≡ Some id → IsLeastUnused m.tree id)
  look_id w o new is k = subst (λ (z : Option Walk). (id : ℕ) × ((look_made version m.tree h z new id).opened ≡ Some id → IsLeastUnused m.tree id)) (sym is) (looked_id w w.rest (look m.tree.nodes w.at w.next) new k)

  pub plays_id : (v : Move) → Plays version m h v told m' → HasId version m h v
  plays_id (Begin s new) k = let x = begun_id s (elements version (path_of s)) new k.begins in record { id = x.0; least = x.1 }
  plays_id (Look new) k = let x = look_id k.walk (m.walk h) new k.is k.looks in record { id = x.0; least = x.1 }
  plays_id (GiveUpWalk s) k = record { id = 0; least = λ q. absurd cc }
  plays_id (OwnMove s new) k = record {
    id = k.acts.id;
    least = λ q. acts_least version m m' h s (resolve version m.tree h (path_of s)) (parent version m.tree h (path_of s)) new told k.acts
        (sym (own_opened m.tree h s (acts version m.tree h s (resolve version m.tree h (path_of s)) (parent version m.tree h (path_of s)) new k.acts.id) (refusal version m.tree h s)) ∙ q);
  }

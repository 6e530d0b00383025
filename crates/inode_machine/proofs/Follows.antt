-- Each walk of a run is for a step with a path.
use Rattle.image_versions.specs.declared.version.Version.{Version}
use Rattle.inode_machine.proofs.Vocabulary.{◌≡◌, inl, inr, ℕ, true, List, [], ◌∷◌, Option, Some, None, sym, ◌∙◌, ap, subst, Action, Name, Tree, put, elements, look, path_of, follows_path, put_other, put_same, same_or, Walk, Stage, Move, Deed, Acts, LookupLeadsTo, Begin, Look, GiveUpWalk, OwnMove, PlaysAny, Turn, Starts, Steps, Nothing, Told, Happens, Goings, opened}
use Rattle.tree_laws.specs.Moves.{StartLeadsTo, Plays}

abbrev pub AllFollow : Stage → Type 0
AllFollow m = (h : ℕ) (w : Walk) → m.walk h ≡ Some w → follows_path w.step ≡ true

-- ---- a move

module _ (version : Version) (m m' : Stage) (h : ℕ) (told : Option Deed) (all : AllFollow m) where
  -- the hart's walk is another, or has ended
  put_follows : (o : Option Walk) → m'.walk ≡ put m.walk h o → ((w : Walk) → o ≡ Some w → follows_path w.step ≡ true) → AllFollow m'
  put_follows o is new g w at = elim (same_or g h) [
    | inl e ↦ new w (sym (put_same m.walk h o) ∙ (sym (ap (λ (f : ℕ → Option Walk). f h) is) ∙ (sym (ap m'.walk e) ∙ at)))
    | inr ne ↦ all g w (sym (put_other m.walk h o g ne) ∙ (sym (ap (λ (f : ℕ → Option Walk). f g) is) ∙ at))
  ]

  acts_follow : (s : Action) (res : Option ℕ) (par : Option (ℕ × Name)) (new : ℕ) → Acts version m h s res par new told m' → AllFollow m'
  acts_follow s res par new k = put_follows None k.walk (λ w q. absurd cc)

  goes_follow : (v : Walk) → follows_path v.step ≡ true → m' ≡ record { tree = m.tree; walk = put m.walk h (Some v) } → AllFollow m'
  goes_follow v f is = put_follows (Some v) (ap (λ (y : Stage). y.walk) is) (λ w q. let same : v ≡ w = (let z : Some v ≡ Some w = q in cc) in ap (λ (y : Walk). follows_path y.step) (sym same) ∙ f)

  begun_follow : (s : Action) (es : List Name) (new : ℕ) → follows_path s ≡ true → StartLeadsTo version m h s es new told m' → AllFollow m'
  begun_follow s [] new f k = acts_follow s _ _ new k
  begun_follow s (e ∷ es) new f k = goes_follow _ f k.1

  looked_follow : (w : Walk) (es : List Name) (found : Option ℕ) (new : ℕ) → follows_path w.step ≡ true → LookupLeadsTo version m h w es found new told m' → AllFollow m'
  looked_follow w [] found new f k = acts_follow w.step _ _ new k
  looked_follow w (e ∷ es) None new f k = acts_follow w.step _ _ new k
  looked_follow w (e ∷ es) (Some n) new f k = goes_follow _ f k.1

  plays_follow : (v : Move) → Plays version m h v told m' → AllFollow m'
  plays_follow (Begin s new) k = begun_follow s (elements version (path_of s)) new k.follows k.begins
  plays_follow (Look new) k = looked_follow k.walk k.walk.rest (look m.tree.nodes k.walk.at k.walk.next) new (all h k.walk k.is) k.looks
  plays_follow (GiveUpWalk s) k = put_follows None (ap (λ (y : Stage). y.walk) k.stage) (λ w q. absurd cc)
  plays_follow (OwnMove s new) k = acts_follow s _ _ new k.acts

  any_follow : (v : Option Move) → PlaysAny version m h v told m' → AllFollow m'
  any_follow None k = subst (λ (y : Stage). AllFollow y) (sym k.1) all
  any_follow (Some v) k = plays_follow v k

-- ---- a run

happens_follow : (version : Version) (w w' : Told) (e : Turn) → AllFollow w.stage → Happens version w e w' → AllFollow w'.stage
happens_follow version w w' (Starts h c) all k = subst (λ (y : Told). AllFollow y.stage) (sym k.world) all
happens_follow version w w' (Steps h v r) all k = subst (λ (y : Told). AllFollow y.stage) (sym k.world) (any_follow version w.stage k.stage h k.told all v k.plays)
happens_follow version w w' Nothing all k = subst (λ (y : Told). AllFollow y.stage) (sym k) all

run_follows : (version : Version) (w w' : Told) (es : List Turn) → AllFollow w.stage → Goings version w es w' → AllFollow w'.stage
unfolding Goings
run_follows version w w' [] all k = subst (λ (y : Told). AllFollow y.stage) k all
run_follows version w w' (e ∷ es) all k = run_follows version k.0 w' es (happens_follow version w k.0 e all k.1) k.2

pub opened_follows : (version : Version) (t : Tree) (w : Told) (es : List Turn) → Goings version (opened t) es w → AllFollow w.stage
opened_follows version t w es k = run_follows version (opened t) w es (λ h v q. absurd cc) k

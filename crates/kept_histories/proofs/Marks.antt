-- The kept tree's marks are the theory's. If what a step places is one move, the kept tree's mark makes that. Else
-- both make none, and then the mark doesn't say that there was no room.
use Rattle.std.specs.Prelude.{◌≡◌, ◌⊎◌, ℕ, Bool, true, false, ◌||◌, List, [], ◌∷◌, Option, Some, None}
use Rattle.std.specs.Option.{option_map}
use Rattle.calls_on_blocks.proofs.Vocabulary.{refl, sym, ◌∙◌, ap, subst, inl, inr}
use Rattle.inode_machine.specs.Marks.{places}
use Rattle.inode_machine.specs.World as above
use Rattle.inode_machine.specs.World.Mark.{Makes, Frees, Orphans, Fills, Mends, Spoils}
use Rattle.path_walk.specs.Asks.{mark_in, marked_as}
use Rattle.path_walk.specs.declared.asks.Mark.{Mark}
use Rattle.path_walk.specs.declared.asks.Mark.TheVariants as mark
use Rattle.plain_tree.specs.declared.step.Action.{Action}
use Rattle.inode_machine.specs.Making.{MayMake}
use Rattle.call_programs.specs.Asks.{spoils}
use Rattle.tree_histories.specs.Keeping.{KeptTree, Under, hart_in, stage_of, walking}
use Rattle.tree_histories.specs.Moving.{IsMoved, MovesByAny, SameCalls, makes_none, spoils as kept_spoils}
use Rattle.tree_laws.specs.Moves.{Deed, Move}
use Rattle.inode_machine.specs.Vocabulary.{MoveStep}
use Rattle.whole_calls.specs.Wholes.{action_in}
use Rattle.kept_histories.proofs.Heads.{MakesNone}
use Rattle.image_versions.specs.declared.version.Version.{Version}

-- A step placed these; this mark, of the same step for this action, makes a move exactly if one was placed.
abbrev pub PlacesNone : List (ℕ × MoveStep) → Action → Option Mark → Type 0
PlacesNone ps s o = (ps ≡ []) × MakesNone (marked_as s o) × (spoils (marked_as s o) ≡ false)

abbrev pub PlacesOne : ℕ → List (ℕ × MoveStep) → Action → Option Mark → Type 0
PlacesOne h ps s o = (v : Move) × (d : Option Deed) × (ps ≡ (h, record { move = v; told = d }) ∷ []) × (marked_as s o ≡ Some (Makes v))

abbrev pub PlacesAlike : ℕ → List (ℕ × MoveStep) → Action → Option Mark → Type 0
PlacesAlike h ps s o = PlacesNone ps s o ⊎ PlacesOne h ps s o

-- what is placed by the same mark, if that found room
pub alike : (version : Version) (h : ℕ) (op : above.Op) (a : above.Answer op) (w : above.World) (ps : List (ℕ × MoveStep)) (s : Action) (o : Option Mark)
    (m : Option above.Mark) → ps ≡ places version h op a m w → marked_as s o ≡ m → spoils m ≡ false → PlacesAlike h ps s o
alike version h op a w ps s o None is same room = inl (is, subst MakesNone (sym same) tt, ap spoils same ∙ room)
alike version h op a w ps s o (Some (Makes v)) is same room = inr (v, _, is, same)
alike version h op a w ps s o (Some (Frees n)) is same room = inl (is, subst MakesNone (sym same) tt, ap spoils same ∙ room)
alike version h op a w ps s o (Some (Orphans n)) is same room = inl (is, subst MakesNone (sym same) tt, ap spoils same ∙ room)
alike version h op a w ps s o (Some Fills) is same room = inl (is, subst MakesNone (sym same) tt, ap spoils same ∙ room)
alike version h op a w ps s o (Some Mends) is same room = inl (is, subst MakesNone (sym same) tt, ap spoils same ∙ room)
alike version h op a w ps s o (Some (Spoils t)) is same room = inl (is, subst MakesNone (sym same) tt, ap spoils same ∙ room)

pub none_placed : (version : Version) (h : ℕ) (op : above.Op) (a : above.Answer op) (w : above.World) (m : Option above.Mark) → MakesNone m
    → places version h op a m w ≡ []
none_placed version h op a w None none = refl
none_placed version h op a w (Some (Makes v)) none = absurd none
none_placed version h op a w (Some (Frees n)) none = refl
none_placed version h op a w (Some (Orphans n)) none = refl
none_placed version h op a w (Some Fills) none = refl
none_placed version h op a w (Some Mends) none = refl
none_placed version h op a w (Some (Spoils t)) none = refl

-- ---- what the kept tree makes of it

makes_none_is : (s : Action) (m : Mark) → MakesNone (Some (mark_in s m)) → makes_none m ≡ true
makes_none_is s mark.Begin none = absurd none
makes_none_is s (mark.Look new) none = absurd none
makes_none_is s mark.GiveUpWalk none = absurd none
makes_none_is s mark.Own none = absurd none
makes_none_is s (mark.Truncate fd) none = absurd none
makes_none_is s mark.Bump none = absurd none
makes_none_is s mark.Unbump none = absurd none
makes_none_is s (mark.Piece i) none = absurd none
makes_none_is s (mark.PartOfPiece i k) none = refl
makes_none_is s (mark.Frees n) none = refl
makes_none_is s (mark.Orphans n) none = refl
makes_none_is s mark.Mends none = refl
makes_none_is s mark.Fills none = refl

-- it says that there was no room exactly if the theory's mark does
pub spoils_so : (s : Action) (m : Mark) → spoils (Some (mark_in s m)) ≡ kept_spoils m
spoils_so s mark.Begin = refl
spoils_so s (mark.Look new) = refl
spoils_so s mark.GiveUpWalk = refl
spoils_so s mark.Own = refl
spoils_so s (mark.Truncate fd) = refl
spoils_so s mark.Bump = refl
spoils_so s mark.Unbump = refl
spoils_so s (mark.Piece i) = refl
spoils_so s (mark.PartOfPiece i k) = refl
spoils_so s (mark.Frees n) = refl
spoils_so s (mark.Orphans n) = refl
spoils_so s mark.Mends = refl
spoils_so s mark.Fills = refl

-- such a mark makes no move
pub spoils_none : (m : Mark) → kept_spoils m ≡ true → makes_none m ≡ true
spoils_none (mark.PartOfPiece i n) e = refl
spoils_none mark.Mends e = refl
spoils_none mark.Fills e = refl
spoils_none m e = absurd cc

pub or_true : (b : Bool) → (b || true) ≡ true
or_true true = refl
or_true false = refl

pub or_false : (b : Bool) → (b || false) ≡ b
or_false true = refl
or_false false = refl

pub stays : (k : KeptTree) (h : ℕ) (s : Action) (o : Option Mark) (k' : KeptTree) → MakesNone (marked_as s o) → spoils (marked_as s o) ≡ false → MovesByAny k h o k' → k' ≡ k
stays k h s None k' none room moves = moves
stays k h s (Some m) k' none room moves =
    moves.still (makes_none_is s m none) ∙ ap (λ (b : Bool). record k { full = k.full || b }) (sym (spoils_so s m) ∙ room) ∙ ap (λ (b : Bool). record k { full = b }) (or_false k.full)

-- the version stays
pub version_stays : (k : KeptTree) (h : ℕ) (o : Option Mark) (k' : KeptTree) → MovesByAny k h o k' → k'.version ≡ k.version
version_stays k h None k' moves = ap (λ (z : KeptTree). z.version) moves
version_stays k h (Some m) k' moves = moves.version

-- no call changes, but for its walk
pub calls_stay : (k : KeptTree) (h : ℕ) (o : Option Mark) (k' : KeptTree) → MovesByAny k h o k' → SameCalls k k'
calls_stay k h None k' moves = λ j. ap (λ (z : KeptTree). option_map (walking None) (hart_in z j)) moves
calls_stay k h (Some m) k' moves = moves.calls

abbrev mark_of : above.Mark → Option above.Mark → above.Mark
mark_of m None = m
mark_of m (Some n) = n

pub moves : (k : KeptTree) (h : ℕ) (u : Under) (v : Move) (o : Option Mark) (k' : KeptTree) → hart_in k h ≡ Some u → marked_as (action_in u.whole) o ≡ Some (Makes v)
    → MayMake k.version (stage_of k) h v → MovesByAny k h o k' → IsMoved k h v k'
moves k h u v None k' is same may by = absurd cc
moves k h u v (Some m) k' is same may by = by.makes u v is (ap (mark_of (Makes v)) same) may

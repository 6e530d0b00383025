-- What is kept when a call makes a move.
use Rattle.std.specs.Prelude.{◌≡◌, ℕ, ◌<◌, Bool, true, false, ◌||◌, List, length, Option, Some, None, Result, Ok, Err, slice_index_or}
use Rattle.plain_tree.specs.declared.refused.ApplyRefused.{ApplyRefused}
use Rattle.plain_tree.specs.declared.refused.ApplyRefused.TheVariants.{BadChoice}
use Rattle.tree_histories.specs.Vocabulary.{Version, option_map, Action, StepAnswer, TreeStep, Deed, IsAppliedWith, IsBadChoiceWith, Name, Tree, tree_of, is_nothing, parent, path_of, resolve, hart_count, History, Move, Stage, all_fall, moves_on, Makes, MayMake, OpensLeast, stage_by, told_by_move, mark_in, Heard, Mark, action_in}
use Rattle.path_walk.specs.declared.asks.Mark.TheVariants as mark
use Rattle.tree_histories.specs.Books.{IsBook}
use Rattle.tree_histories.specs.Sights.{MarksBy}
use Rattle.tree_histories.specs.Keeping.{HasHeard, KeptTree, Under, hart_in, is_lost, stage_of, walking, with_walk, written}

-- a mark for which the kept tree stays: what it frees isn't in the settled tree, or there was no room, and no list explains the run
abbrev pub makes_none : Mark → Bool
makes_none (mark.PartOfPiece i n) = true
makes_none (mark.Frees n) = true
makes_none (mark.Orphans n) = true
makes_none mark.Mends = true
makes_none mark.Fills = true
makes_none m = false

-- .. since there was no room: nothing was taken, or what was taken is given back, or a piece is written in part
abbrev pub spoils : Mark → Bool
spoils (mark.PartOfPiece i n) = true
spoils mark.Mends = true
spoils mark.Fills = true
spoils m = false

abbrev pub tree_step : ℕ → ℕ → Action → TreeStep
tree_step h new s = record { hart = h; new = new; action = s }

-- what is reported of a step that the tree answered so, or refused
abbrev pub IsDeedOf : TreeStep → Result StepAnswer ApplyRefused → Option Deed → Type 0
IsDeedOf s (Ok a) d = d ≡ Some (record { act = record { step = s.action; answer = a }; new = s.new })
IsDeedOf s (Err why) d = (d ≡ None) × (why ≡ BadChoice)

-- res, par: what was found for the step's path, and the directory of its last element, with that
module _ (version : Version) (s : TreeStep) (res : Option ℕ) (par : Option (ℕ × Name)) where
  -- the step acted on the tree; or it makes a node, and can't take the number that it says
  abbrev pub ActedOn : Tree → Option Deed → Tree → Type 0
  ActedOn t None t' = IsBadChoiceWith version t s res par × (t' ≡ t)
  ActedOn t (Some d) t' = (d.act.step ≡ s.action) × (d.new ≡ s.new) × IsAppliedWith version t s res par d.act.answer t'

module _ (s : TreeStep) (res : Option ℕ) (par : Option (ℕ × Name)) where
  -- The step acted, if it may, and its hart's walk is over. Where it can't take its number, it is known that there was no room.
  pub record IsActed (k : KeptTree) (d : Option Deed) (k' : KeptTree) : Type 0 where
    pub kept : k' ≡ record (with_walk k s.hart None) { tree = k'.tree; full = is_nothing d || k.full }
    pub acted : ActedOn k.version s res par (tree_of k.tree) d (tree_of k'.tree)

-- .. by what the path leads to in the tree itself
abbrev pub IsActedAlone : KeptTree → TreeStep → Option Deed → KeptTree → Type 0
IsActedAlone k s d k' =
    IsActed s (resolve k.version (tree_of k.tree) s.hart (path_of s.action))
    (parent k.version (tree_of k.tree) s.hart (path_of s.action)) k d k'

-- each hart's call is the same, but for its walk
abbrev pub SameCalls : KeptTree → KeptTree → Type 0
SameCalls k k' = (h : ℕ) → option_map (walking None) (hart_in k' h) ≡ option_map (walking None) (hart_in k h)

-- nothing but the tree and walks has changed, and what is known of want of room stays known
pub record OnlyMoves (k k' : KeptTree) : Type 0 where
  pub version : k'.version ≡ k.version
  pub count : length k'.harts ≡ length k.harts
  pub list : k'.list ≡ k.list
  pub events : k'.events ≡ k.events
  pub calls : k'.calls ≡ k.calls
  pub grows : k.full ≡ true → k'.full ≡ true
  pub harts : SameCalls k k'

-- the stage is that of the move, in which a file that it opens has the least unused id; and what is reported is what
-- the move reports
pub record Tells (k : KeptTree) (h : ℕ) (v : Move) (d : Option Deed) (k' : KeptTree) : Type 0 where
  pub id : ℕ
  pub least : OpensLeast k.version (stage_of k) h id v
  pub stage : stage_of k' ≡ stage_by k.version (stage_of k) h id v
  pub told : d ≡ told_by_move k.version (stage_of k) h id v
  pub full : k'.full ≡ k.full

-- the move is reported, if the hart may make it
abbrev pub TellsMove : KeptTree → ℕ → Move → Option Deed → KeptTree → Type 0
TellsMove k h v d k' = MayMake k.version (stage_of k) h v → Tells k h v d k'

-- .. if the mark of the hart's call makes a move
abbrev pub TellsOf : KeptTree → ℕ → Mark → Option Deed → KeptTree → Type 0
TellsOf k h m d k' = (u : Under) (v : Move) → hart_in k h ≡ Some u → mark_in (action_in u.whole) m ≡ Makes v → TellsMove k h v d k'

-- a mark that makes no move changes nothing of the tree, the calls and the list
abbrev pub StaysFor : KeptTree → Mark → Option Deed → KeptTree → Type 0
StaysFor k m d k' = makes_none m ≡ true → (d ≡ None) × (k' ≡ k)

-- what is reported is written, unless that was done as the hart's walk was lost
abbrev pub written_unless : KeptTree → ℕ → Option Deed → Bool → KeptTree
written_unless k h None was_lost = k
written_unless k h (Some d) true = k
written_unless k h (Some d) false = written k h d

-- .. and if the mark says that there was no room, that is kept
abbrev pub told_in : KeptTree → ℕ → Mark → Option Deed → Bool → KeptTree
told_in k h m told was_lost = record (written_unless k h told was_lost) { full = k.full || spoils m }

-- these harts' walks are lost
abbrev pub WereLost : List Bool → Stage → Type 0
WereLost before m = (h : ℕ) → h < hart_count → slice_index_or before h false ≡ is_lost m h

-- the walks that are lost by now, and weren't before, have failed
abbrev pub HaveFallen : List Bool → KeptTree → KeptTree → Type 0
HaveFallen before k k' = (m : Stage) (b : History) → WereLost before m → IsBook k b → IsBook k' (all_fall m (stage_of k) hart_count b)

-- the calls under way are the same, and what is known of room, and the version
abbrev pub KeepsRest : KeptTree → KeptTree → Type 0
KeepsRest k k' = (k'.harts ≡ k.harts) × (k'.full ≡ k.full) × (k'.version ≡ k.version)

-- if none is lost that wasn't, nothing has changed
abbrev pub NoneFalls : List Bool → KeptTree → KeptTree → Type 0
NoneFalls before k k' = WereLost before (stage_of k) → k' ≡ k

-- Kept is what the theory keeps: the stage of the move, in which a file that it opens has the least unused id; and the
-- history. The history has what the move reports and the walks that it loses.
pub record IsMoved (k : KeptTree) (h : ℕ) (v : Move) (k' : KeptTree) : Type 0 where
  pub id : ℕ
  pub least : OpensLeast k.version (stage_of k) h id v
  pub stage : stage_of k' ≡ stage_by k.version (stage_of k) h id v
  pub full : k'.full ≡ k.full
  pub book : (b : History) → IsBook k b
      → IsBook k' (moves_on (stage_of k) (stage_by k.version (stage_of k) h id v) h (told_by_move k.version (stage_of k) h id v) b)

-- what is kept goes on by the mark of the hart's call
pub record MovesBy (k : KeptTree) (h : ℕ) (m : Mark) (k' : KeptTree) : Type 0 where
  pub makes : (u : Under) (v : Move) → hart_in k h ≡ Some u → mark_in (action_in u.whole) m ≡ Makes v → MayMake k.version (stage_of k) h v
      → IsMoved k h v k'
  pub still : makes_none m ≡ true → k' ≡ record k { full = k.full || spoils m }
  -- no call under way has changed, but for its walk
  pub calls : SameCalls k k'
  -- what is known of want of room stays known
  pub grows : k.full ≡ true → k'.full ≡ true
  pub version : k'.version ≡ k.version

-- without a mark nothing changes
abbrev pub MovesByAny : KeptTree → ℕ → Option Mark → KeptTree → Type 0
MovesByAny k h None k' = k' ≡ k
MovesByAny k h (Some m) k' = MovesBy k h m k'

-- A step of the hart's call has run: its operation has this mark there, if it acts. The move of that is made, and the
-- call goes on by what it heard.
pub record HasRun (k : KeptTree) (h : ℕ) (heard : Option Heard) (k' : KeptTree) : Type 0 where
  pub marked : Option Mark
  pub marks : MarksBy k.version (tree_of k.tree) (hart_in k h) heard marked
  pub between : KeptTree
  pub moves : MovesByAny k h marked between
  pub hears : HasHeard between h heard k'

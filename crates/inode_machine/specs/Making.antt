-- Each move of a run is made as code makes it: what it asks of a tree that has settled, and what it leads to.
use Rattle.std.specs.Prelude.{◌≡◌, ℕ, ◌<◌, ◌≤◌, ◌^◌, true, List, [], ◌∷◌, ◌++◌, Option, Some, None}
use Rattle.image_versions.specs.declared.version.Version.{Version}
use Rattle.inode_machine.specs.Vocabulary.{Call, TreeData, Action, Name, Tree, elements, look, parent, path_of, resolve, settle, start_of, refusal_with, makes_node, IsInPlace, IsLeastUnused, IsNewNode, hart_count, Event, Start, Step, State, fresh, next, run, Walk, Stage, Move, MoveStep, Begin, Look, Own, GiveUpWalk}
use Rattle.tree_laws.specs.Vocabulary.{live_directory}
use Rattle.inode_machine.specs.Marks.{made_by}
use Rattle.inode_machine.specs.Kept.{placed, stage_by, told_by_move}
use Rattle.inode_machine.specs.Basics.{MoveMachine, RunsFrom, theory_of}

-- The step may act by what was found for its path, its node (res) and its directory with its last element (par). It
-- has its place, and if these don't have it refused, a node that it makes takes a number that is free.
pub record ActsSo (version : Version) (t : Tree) (h : ℕ) (s : Action) (res : Option ℕ) (par : Option (ℕ × Name)) (new : ℕ) : Type 0 where
  pub place : IsInPlace t h s
  pub node : refusal_with version t h s res par ≡ None → makes_node t s par ≡ true → IsNewNode t new

abbrev pub MayBegin : Version → Tree → ℕ → Action → List Name → ℕ → Type 0
MayBegin version t h s [] new = ActsSo version t h s (Some (start_of t h (path_of s))) None new
MayBegin version t h s (e ∷ es) new = Unit {0}

abbrev pub MayLook : Version → Tree → ℕ → Walk → List Name → Option ℕ → ℕ → Type 0
MayLook version t h w [] found new = ActsSo version t h w.step found (Some (w.at, w.next)) new
MayLook version t h w (e ∷ es) None new = ActsSo version t h w.step None None new
MayLook version t h w (e ∷ es) (Some n) new = Unit {0}

-- a lookup is made in a live directory
abbrev pub MayLookOn : Version → Tree → ℕ → Option Walk → ℕ → Type 0
MayLookOn version t h None new = Unit {0}
MayLookOn version t h (Some w) new = (live_directory (t.nodes w.at) ≡ true) × MayLook version t h w w.rest (look t.nodes w.at w.next) new

abbrev pub MayMove : Version → Stage → ℕ → Move → Type 0
MayMove version m h (Begin s new) = MayBegin version m.tree h s (elements version (path_of s)) new
MayMove version m h (Look new) = MayLookOn version m.tree h (m.walk h) new × (new < 2 ^ 16)
MayMove version m h (GiveUpWalk s) = Unit {0}
MayMove version m h (Own s new) = ActsSo version m.tree h s (resolve version m.tree h (path_of s)) (parent version m.tree h (path_of s)) new

-- The hart may make this move, in a settled tree.
pub record MayMake (version : Version) (m : Stage) (h : ℕ) (v : Move) : Type 0 where
  pub hart : h < hart_count
  pub settled : settle m.tree ≡ m.tree
  pub move : MayMove version m h v

-- if the move opens a file, that takes the least id that is unused
abbrev pub OpensLeast : Version → Stage → ℕ → ℕ → Move → Type 0
OpensLeast version m h id v = (made_by version m.tree h id (m.walk h) v).opened ≡ Some id → IsLeastUnused m.tree id

-- The hart may make this move, and with each id that a file which it opens may take it leads to this stage, and tells this. There is such
-- an id.
pub record IsMade (version : Version) (m : Stage) (h : ℕ) (e : MoveStep) (m' : Stage) : Type 0 where
  pub may : MayMake version m h e.move
  pub id : ℕ
  pub least : OpensLeast version m h id e.move
  pub stage : (id : ℕ) → OpensLeast version m h id e.move → m' ≡ stage_by version m h id e.move
  pub told : (id : ℕ) → OpensLeast version m h id e.move → e.told ≡ told_by_move version m h id e.move

-- what the hart's event places is one move at most, its own, and is made; and if it places none the tree and all walks
-- stay
abbrev pub MakesPlaced : Version → ℕ → Stage → List (ℕ × MoveStep) → Stage → Type 0
MakesPlaced version h m [] m' = m' ≡ m
MakesPlaced version h m (p ∷ ps) m' = (ps ≡ []) × (p.0 ≡ h) × IsMade version m h p.1 m'

abbrev pub hart_of : {Outside : Type 0} → Event Call Outside → ℕ
hart_of (Start h call) = h
hart_of (Step h x) = h

module _ (version : Version) (m : MoveMachine) where
  abbrev pub MakesItsMoves : Event Call m.Outside → State (theory_of version m) → Type 0
  MakesItsMoves e s =
      MakesPlaced version (hart_of e) (m.tree s.world) (placed version m e s) (m.tree (next (theory_of version m) e s).world)

  -- Each event of a run on a tree whose numbers fit into 16 bits.
  abbrev pub RunsMakeMoves : Type 0
  RunsMakeMoves = (base : TreeData) (w : m.World) (before later : List (Event Call m.Outside)) (e : Event Call m.Outside)
      → RunsFrom version m base w (before ++ e ∷ later) → base.ninodes ≤ 2 ^ 16
      → MakesItsMoves e (run (theory_of version m) before (fresh (theory_of version m) w))

-- The moves of calls on a tree, as a single hart sees them: walks, lookups, acts. A call learns that its walk is lost
-- when it gives the walk up.
use Rattle.std.specs.Prelude.{◌≡◌, ◌≢◌, ℕ, ◌<◌, true, false, List, [], ◌∷◌, ◌++◌, Option, Some, None}
use Rattle.image_versions.specs.declared.version.Version.{Version}
use Rattle.tree_laws.specs.Vocabulary.{NoEntry, Reply, Call, Action, Inherit, StepAnswer, Failed, hart_count, Name, Tree, put, elements, live_directory, look, start_of, resolve, parent, path_of, follows_path, makes_node, refusal_with, IsInPlace, StepWith, Act, next_of, reply_of, had_room}

-- A step with its answer, and the number that it may give a new node.
pub record Deed : Type 0 where
  pub act : Act
  pub new : ℕ

-- A walk for a tree step is at a node; the elements next and rest are still to be looked up.
pub record Walk : Type 0 where
  pub step : Action
  pub at : ℕ
  pub next : Name
  pub rest : List Name

-- the tree, and the walks that are under way in it
pub record Stage : Type 0 where
  pub tree : Tree
  pub walk : ℕ → Option Walk  -- by hart

-- new: the number for a new node, if the step makes one
pub data Move : Type 0 where
  Begin : Action → (new : ℕ) → Move  -- a path's walk begins at its start
  Look : (new : ℕ) → Move  -- the next element is looked up
  GiveUpWalk : Action → Move  -- the walk for this step, which is lost, is given up
  Own : Action → (new : ℕ) → Move  -- a step without a path

-- a walk that finds no live directory to look in fails
abbrev pub fail : Action → Deed
fail s = record { act = record { step = s; answer = Failed NoEntry }; new = 0 }

abbrev pub walks_at : Option Walk → ℕ → Type 0
walks_at None n = ⊥
walks_at (Some w) n = w.at ≡ n

-- The step acts by what was found for its path: res and par. The hart is handed the deed, and the walk that led to it
-- ends.
pub record Acts (version : Version) (m : Stage) (h : ℕ) (s : Action) (res : Option ℕ) (par : Option (ℕ × Name)) (new : ℕ)
    (told : Option Deed)
    (m' : Stage) : Type 0 where
  pub answer : StepAnswer
  pub id : ℕ  -- of a new open file
  pub deed : told ≡ Some (record { act = record { step = s; answer = answer }; new = new })
  pub step : StepWith version m.tree h s res par answer new id m'.tree
  pub walk : m'.walk ≡ put m.walk h None
  -- if it makes a node, no other hart's walk is at the number
  pub alone : refusal_with version m.tree h s res par ≡ None → makes_node m.tree s par ≡ true → (g : ℕ) → g < hart_count → g ≢ h
      → walks_at (m.walk g) new → ⊥
  -- a hart that inherits has no walk
  pub idle : (g : ℕ) → g < hart_count → s ≡ Inherit g → m.walk g ≡ None

-- the hart's walk goes on from here, and the hart is handed nothing
abbrev pub GoesTo : Stage → ℕ → Walk → Option Deed → Stage → Type 0
GoesTo m h w told m' = (told ≡ None) × (m' ≡ record { tree = m.tree; walk = put m.walk h (Some w) })

-- a path without elements is found at its start
abbrev pub StartLeadsTo : Version → Stage → ℕ → Action → List Name → ℕ → Option Deed → Stage → Type 0
StartLeadsTo version m h s [] new told m' = Acts version m h s (Some (start_of m.tree h (path_of s))) None new told m'
StartLeadsTo version m h s (e ∷ es) new told m' =
    GoesTo m h (record { step = s; at = start_of m.tree h (path_of s); next = e; rest = es }) told m'

-- the step acts at the last lookup, or when nothing was found
abbrev pub LookupLeadsTo : Version → Stage → ℕ → Walk → List Name → Option ℕ → ℕ → Option Deed → Stage → Type 0
LookupLeadsTo version m h w [] found new told m' = Acts version m h w.step found (Some (w.at, w.next)) new told m'
LookupLeadsTo version m h w (e ∷ es) None new told m' = Acts version m h w.step None None new told m'
LookupLeadsTo version m h w (e ∷ es) (Some n) new told m' = GoesTo m h (record { step = w.step; at = n; next = e; rest = es }) told m'

pub record BeginsWalk (version : Version) (m : Stage) (h : ℕ) (s : Action) (new : ℕ) (told : Option Deed) (m' : Stage) : Type 0 where
  pub follows : follows_path s ≡ true
  pub rests : m.walk h ≡ None
  pub place : IsInPlace m.tree h s
  pub begins : StartLeadsTo version m h s (elements version (path_of s)) new told m'

pub record LooksUp (version : Version) (m : Stage) (h : ℕ) (new : ℕ) (told : Option Deed) (m' : Stage) : Type 0 where
  pub walk : Walk
  pub is : m.walk h ≡ Some walk
  pub live : live_directory (m.tree.nodes walk.at) ≡ true
  pub looks : LookupLeadsTo version m h walk walk.rest (look m.tree.nodes walk.at walk.next) new told m'

pub record GivesUp (m : Stage) (h : ℕ) (s : Action) (told : Option Deed) (m' : Stage) : Type 0 where
  pub walk : Walk
  pub is : m.walk h ≡ Some walk
  pub step : walk.step ≡ s
  pub lost : live_directory (m.tree.nodes walk.at) ≡ false
  pub deed : told ≡ Some (fail s)
  pub stage : m' ≡ record { tree = m.tree; walk = put m.walk h None }

pub record ActsAtOnce (version : Version) (m : Stage) (h : ℕ) (s : Action) (new : ℕ) (told : Option Deed) (m' : Stage) : Type 0 where
  pub follows : follows_path s ≡ false
  pub rests : m.walk h ≡ None
  pub acts : Acts version m h s (resolve version m.tree h (path_of s)) (parent version m.tree h (path_of s)) new told m'

-- the hart's move, and what its call is handed
abbrev pub Plays : Version → Stage → ℕ → Move → Option Deed → Stage → Type 0
Plays version m h (Begin s new) told m' = BeginsWalk version m h s new told m'
Plays version m h (Look new) told m' = LooksUp version m h new told m'
Plays version m h (GiveUpWalk s) told m' = GivesUp m h s told m'
Plays version m h (Own s new) told m' = ActsAtOnce version m h s new told m'

-- a move with what it hands the call
pub record Step : Type 0 where
  pub move : Move
  pub told : Option Deed

abbrev pub PlaysStep : Version → Stage → ℕ → Step → Stage → Type 0
PlaysStep version m h e m' = Plays version m h e.move e.told m'

-- The calls whose moves these are.

-- the tree step that a move begins
abbrev pub begins : Move → Option Action
begins (Begin s new) = Some s
begins (Look new) = None
begins (GiveUpWalk s) = None
begins (Own s new) = Some s

-- if a step is begun, it is the next one of the call's written sequence
abbrev pub IsNext : Call → List Act → Option Action → Type 0
IsNext c acts None = Unit {0}
IsNext c acts (Some s) = next_of c acts ≡ Some s

-- the acts that the call was handed, the oldest first
abbrev pub after : Option Deed → List Act → List Act
after None acts = acts
after (Some d) acts = acts ++ d.act ∷ []

-- the written sequence has no further step, no step of it was without room, and it makes this reply
pub record MayEnd (c : Call) (acts : List Act) (r : Reply) : Type 0 where
  pub through : next_of c acts ≡ None
  pub reply : r ≡ reply_of c acts
  pub room : had_room acts ≡ true

-- these moves, after the acts that were handed so far, are the rest of the call, and make this reply
abbrev pub IsPlayed : Call → List Act → List Step → Reply → Type 0
IsPlayed c acts [] r = MayEnd c acts r
IsPlayed c acts (e ∷ es) r = IsNext c acts (begins e.move) × IsPlayed c (after e.told acts) es r

-- these moves are the whole call
abbrev pub IsWholeCall : Call → List Step → Reply → Type 0
IsWholeCall c es r = IsPlayed c [] es r

-- what the call was handed after these moves
abbrev pub told_by : List Act → List Step → List Act
told_by acts [] = acts
told_by acts (e ∷ es) = told_by (after e.told acts) es

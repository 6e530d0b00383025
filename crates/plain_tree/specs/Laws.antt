-- What the definitions say of one another.
use Rattle.std.specs.Prelude.{◌≡◌, ℕ, true, ◌⊎◌, ◌<◌, ◌≢◌, List, Option, Some, None}
use Rattle.image_versions.specs.declared.version.Version.{Version}
use Rattle.plain_tree.specs.declared.step.Action.{Action}
use Rattle.plain_tree.specs.declared.step.Action.TheVariants.{Inherit}
use Rattle.plain_tree.specs.declared.step.TreeStep.{TreeStep}
use Rattle.plain_tree.specs.declared.step.StepAnswer.{StepAnswer}
use Rattle.plain_tree.specs.Basics.{Name, Tree, any_below, is_named, look, settle, IsInPlace, IsLeastUnused, Step, StepWith, opens_one, hart_count, descriptor_count}
use Rattle.plain_tree.specs.Tree.{climbs, climbs_in, elements}
use Rattle.plain_tree.specs.HartRow.{row_of, row_names}
use Rattle.plain_tree.specs.Applied.{applied, IsApplied, IsBadChoice}

-- A step as it is applied is a step of the tree. It must be in its place, with a right number for a new node and the
-- least unused id for a file that it opens.
abbrev pub AppliedIsAStep : Type 0
AppliedIsAStep = (v : Version) (t : Tree) (s : TreeStep) (id : ℕ) → IsInPlace t s.hart s.action → (IsBadChoice v t s → ⊥)
    → (opens_one t s.hart s.action ≡ true → IsLeastUnused t id) → Step v t s (applied v t s id).answer (applied v t s id).tree

-- What `Tree::apply` promises is a tree step, unless it is out of its place; then nothing changes.
abbrev pub AnswersAreSteps : Type 0
AnswersAreSteps = (v : Version) (t : Tree) (s : TreeStep) (a : StepAnswer) (t' : Tree) → IsApplied v t s a t'
    → Step v t s a t' ⊎ ((IsInPlace t s.hart s.action → ⊥) × (t' ≡ t))

-- What has settled settles to itself.
abbrev pub SettlesOnce : Type 0
SettlesOnce = (t : Tree) → settle (settle t) ≡ settle t

-- A node is named if a hart's row names it.
abbrev pub RowsName : Type 0
RowsName = (t : Tree) (n : ℕ) → is_named t n ≡ any_below hart_count (λ h. row_names (row_of t h) n)

-- each descriptor of the hart has its open file
abbrev pub HasFiles : Tree → ℕ → Type 0
HasFiles t g = (i id : ℕ) → g < hart_count → i < descriptor_count → t.fds g i ≡ Some id → t.files id ≢ None

-- A step of one hart leaves the rows of the others, except that of an inherit's child.
abbrev pub RowsStay : Type 0
RowsStay = (v : Version) (t : Tree) (s : TreeStep) (a : StepAnswer) (t' : Tree) (g : ℕ) → Step v t s a t' → g ≢ s.hart
    → (s.action ≡ Inherit g → ⊥) → HasFiles t g → row_of t' g ≡ row_of t g

-- the node of that number stays when the tree settles
abbrev pub Stays : Tree → ℕ → Type 0
Stays t n = (settle t).nodes n ≡ t.nodes n

-- Three nodes stay: the one that a step's path leads to, the directory before the last element, and the directory's
-- node of that name.
pub record AsksForWhatStays (t : Tree) (res : Option ℕ) (par : Option (ℕ × Name)) : Type 0 where
  pub node : (n : ℕ) → res ≡ Some n → Stays t n
  pub directory : (q : ℕ × Name) → par ≡ Some q → Stays t q.0
  pub child : (q : ℕ × Name) (n : ℕ) → par ≡ Some q → look t.nodes q.0 q.1 ≡ Some n → Stays t n

-- A step of a settled tree is that of the unsettled one.
abbrev pub SettledSteps : Type 0
SettledSteps = (v : Version) (t : Tree) (h : ℕ) (s : Action) (res : Option ℕ) (par : Option (ℕ × Name)) (a : StepAnswer) (new id : ℕ)
    (t' : Tree) → AsksForWhatStays t res par → StepWith v t h s res par a new id t'
    → StepWith v (settle t) h s res par a new id (settle t')

-- A path climbs in one version exactly if it climbs in any.
abbrev pub ClimbsInEachVersion : Type 0
ClimbsInEachVersion = (v : Version) (path : List ℕ) → climbs_in (elements v path) ≡ climbs path

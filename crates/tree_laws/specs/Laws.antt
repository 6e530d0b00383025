-- The laws of the plain tree.
use Rattle.std.specs.Prelude.{◌≡◌, ℕ, ◌<◌, ◌≤◌, true, false, List, Option, None}
use Rattle.image_versions.specs.declared.version.Version.{Version}
use Rattle.tree_laws.specs.Vocabulary.{Action, StepAnswer, hart_count, Name, Tree, tree_of, put, is_live, is_named, resolve, parent, refusal_with, IsInPlace, MayChoose, effect_with, StepWith, IsReached, fresh}
use Rattle.tree_laws.specs.WellFormed.{raises, IsWellFormed}
use Rattle.tree_laws.specs.Leaves.{IsFound, LeavesFinding, Frame, IsNobodys}

-- Every tree step, even a refused one, keeps a tree well formed, whatever was found for its path.
abbrev pub StepsKeepWellFormed : Version → Type 0
StepsKeepWellFormed version = (t t' : Tree) (h : ℕ) (s : Action) (res : Option ℕ) (par : Option (ℕ × Name)) (a : StepAnswer) (new id : ℕ)
    → IsWellFormed t → IsFound t res par → StepWith version t h s res par a new id t' → IsWellFormed t'

-- The tree is also well formed before the nodes that nothing keeps are removed.
abbrev pub EffectsKeepWellFormed : Version → Type 0
EffectsKeepWellFormed version = (t : Tree) (h : ℕ) (s : Action) (res : Option ℕ) (par : Option (ℕ × Name)) (new id : ℕ) → IsWellFormed t
    → IsFound t res par → IsInPlace t h s → refusal_with version t h s res par ≡ None → MayChoose t h s par new id
    → IsWellFormed (effect_with version t h s res par new id)

-- What live directories find changes at the step's own name alone.
abbrev pub StepsLeaveFinding : Version → Type 0
StepsLeaveFinding version = (t t' : Tree) (h : ℕ) (s : Action) (res : Option ℕ) (par : Option (ℕ × Name)) (a : StepAnswer) (new id : ℕ)
    → IsWellFormed t → IsFound t res par → StepWith version t h s res par a new id t' → LeavesFinding version t h s res par new t'

-- A path without ".." leads to the same node as before, or it led to what the step removed.
abbrev pub StepsLeavePaths : Version → Type 0
StepsLeavePaths version = (t t' : Tree) (h : ℕ) (s : Action) (res : Option ℕ) (par : Option (ℕ × Name)) (a : StepAnswer) (new id : ℕ)
    → IsWellFormed t → IsFound t res par → StepWith version t h s res par a new id t' → Frame version t h s res par new t'

-- What a whole path leads to is found.
abbrev pub PathsLeadToWhatIsFound : Version → Type 0
PathsLeadToWhatIsFound version =
    (t : Tree) (h : ℕ) (path : List ℕ) → h < hart_count → IsWellFormed t → IsFound t (resolve version t h path) (parent version t h path)

-- A dead node that nothing names may be removed.
abbrev pub DeadNodesMayLeave : Type 0
DeadNodesMayLeave = (t : Tree) (n : ℕ) → IsWellFormed t → is_live (t.nodes n) ≡ false → is_named t n ≡ false
    → IsWellFormed (record t { nodes = put t.nodes n None })

-- A number that a step may choose for a new node is found nowhere.
abbrev pub NewNumbersAreNobodys : Type 0
NewNumbersAreNobodys = (t : Tree) (n : ℕ) → IsWellFormed t → t.nodes n ≡ None → IsNobodys t n

-- A tree with a root alone is well formed.
abbrev pub FreshTreesAreWellFormed : Version → Type 0
FreshTreesAreWellFormed version = (ninodes : ℕ) → 2 ≤ ninodes → IsWellFormed (tree_of (fresh version ninodes))

-- Each live node has a path from the root, except one that a link has raised and not yet named.
abbrev pub LiveNodesAreReached : Type 0
LiveNodesAreReached = (t : Tree) (n : ℕ) → IsWellFormed t → is_live (t.nodes n) ≡ true → raises t.holds n ≡ 0 → IsReached t n

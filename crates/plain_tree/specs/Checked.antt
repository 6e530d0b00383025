-- Words for the promises of the parts of a list's check.
use Rattle.std.specs.Prelude.{◌≡◌, ℕ, Bool, true, false, List, Some, slice_get}
use Rattle.image_versions.specs.declared.version.Version.{Version}
use Rattle.plain_tree.specs.declared.step.TreeStep.{TreeStep}
use Rattle.plain_tree.specs.declared.step.StepAnswer.{StepAnswer}
use Rattle.plain_tree.specs.declared.step.StepAnswer.TheVariants.{Full as NoRoom}
use Rattle.plain_tree.specs.declared.trace.Placed.{Placed}
use Rattle.plain_tree.specs.declared.trace.TracedCall.{TracedCall}
use Rattle.plain_tree.specs.Basics.{Tree, Step}
use Rattle.plain_tree.specs.Explains.{Chain, IsWritten, acts_of}

-- the list leads from t to some tree
abbrev pub Leads : Version → Tree → List Placed → Type 0
Leads v t list = (end : Tree) × Chain v t list end

-- If this is true the step with its answer leads from t to t', otherwise from t to no tree.
abbrev pub LeadsOn : Version → Bool → Tree → TreeStep → StepAnswer → Tree → Type 0
LeadsOn v true t s a t' = Step v t s a t'
LeadsOn v false t s a t' = (u : Tree) → Step v t s a u → ⊥

-- the step answered that there is no room
abbrev pub is_full : StepAnswer → Bool
is_full (NoRoom f) = true
is_full a = false

-- the list has the steps of each call: all if it is finished, else a beginning
abbrev pub AllWritten : List TracedCall → List Placed → Type 0
AllWritten calls list = (id : ℕ) (c : TracedCall) → slice_get calls id ≡ Some c → IsWritten c.call (acts_of id list) c.finished

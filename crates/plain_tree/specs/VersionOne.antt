-- The words that depend on the version, of version 1.
use Rattle.std.specs.Prelude.{ℕ, List, Option}
use Rattle.image_versions.specs.declared.version.Version.TheVariants.{One}
use Rattle.image_versions.specs.Versions.{name_len_of}
use Rattle.plain_tree.specs.declared.answer.Cause.{Cause}
use Rattle.plain_tree.specs.declared.answer.Stat.{Stat}
use Rattle.plain_tree.specs.declared.node.Node.{Node}
use Rattle.plain_tree.specs.declared.node.NodeKind.{NodeKind}
use Rattle.plain_tree.specs.declared.node.Slot.{Slot}
use Rattle.plain_tree.specs.declared.refused.ApplyRefused.{ApplyRefused}
use Rattle.plain_tree.specs.declared.step.Action.{Action}
use Rattle.plain_tree.specs.declared.step.StepAnswer.{StepAnswer}
use Rattle.plain_tree.specs.declared.step.TreeStep.{TreeStep}
use Rattle.plain_tree.specs.declared.trace.Placed.{Placed}
use Rattle.plain_tree.specs.declared.trace.Trace.{Trace}
use Rattle.plain_tree.specs.declared.tree.OpenFile.{OpenFile}
use Rattle.plain_tree.specs.Basics.{Name, Tree, TreeData}
use Rattle.plain_tree.specs.Applied as applies
use Rattle.plain_tree.specs.Applied.{Outcome}
use Rattle.plain_tree.specs.Checked as checked
use Rattle.plain_tree.specs.Code as code
use Rattle.plain_tree.specs.Explains as explained
use Rattle.plain_tree.specs.Fresh as fresh_trees
use Rattle.plain_tree.specs.Steps as steps
use Rattle.plain_tree.specs.Tree as trees

-- Paths.

abbrev pub name_len : ℕ
name_len = name_len_of One

abbrev pub elements : List ℕ → List Name
elements path = trees.elements One path

abbrev pub with_element : List ℕ → List Name → List Name
with_element bytes es = code.with_element One bytes es

abbrev pub resolve : Tree → ℕ → List ℕ → Option ℕ
resolve t h path = trees.resolve One t h path

abbrev pub parent : Tree → ℕ → List ℕ → Option (ℕ × Name)
parent t h path = trees.parent One t h path

-- Contents and sizes.

abbrev pub entry_bytes : Option Slot → List ℕ
entry_bytes s = steps.entry_bytes One s

abbrev pub entries : List (Option Slot) → List ℕ
entries ss = steps.entries One ss

abbrev pub content : NodeKind → List ℕ
content k = steps.content One k

abbrev pub size_of : NodeKind → ℕ
size_of k = steps.size_of One k

abbrev pub part : Tree → Option OpenFile → ℕ → List ℕ
part t o n = steps.part One t o n

abbrev pub stat_of : ℕ → Node → Stat
stat_of n node = steps.stat_of One n node

abbrev pub stat_answer : Tree → Option OpenFile → StepAnswer
stat_answer t o = steps.stat_answer One t o

-- Steps.

abbrev pub write_kind : NodeKind → ℕ → List ℕ → Option Cause
write_kind k offset b = steps.write_kind One k offset b

abbrev pub refusal_with : Tree → ℕ → Action → Option ℕ → Option (ℕ × Name) → Option Cause
refusal_with t h s res par = steps.refusal_with One t h s res par

abbrev pub refusal : Tree → ℕ → Action → Option Cause
refusal t h s = steps.refusal One t h s

abbrev pub effect_with : Tree → ℕ → Action → Option ℕ → Option (ℕ × Name) → ℕ → ℕ → Tree
effect_with t h s res par new id = steps.effect_with One t h s res par new id

abbrev pub answer_with : Tree → ℕ → Action → Option ℕ → Option (ℕ × Name) → ℕ → StepAnswer
answer_with t h s res par id = steps.answer_with One t h s res par id

abbrev pub StepWith : Tree → ℕ → Action → Option ℕ → Option (ℕ × Name) → StepAnswer → ℕ → ℕ → Tree → Type 0
StepWith t h s res par a new id t' = steps.StepWith One t h s res par a new id t'

abbrev pub Step : Tree → TreeStep → StepAnswer → Tree → Type 0
Step t s a t' = steps.Step One t s a t'

-- What is applied.

abbrev pub in_place_with : Tree → TreeStep → Option ℕ → Option (ℕ × Name) → Option Cause → ℕ → Outcome
in_place_with t s res par why id = applies.in_place_with One t s res par why id

abbrev pub applied_with : Tree → TreeStep → Option ℕ → Option (ℕ × Name) → ℕ → Outcome
applied_with t s res par id = applies.applied_with One t s res par id

abbrev pub IsBadChoiceWith : Tree → TreeStep → Option ℕ → Option (ℕ × Name) → Type 0
IsBadChoiceWith t s res par = applies.IsBadChoiceWith One t s res par

abbrev pub IsAppliedAtWith : Tree → TreeStep → Option ℕ → Option (ℕ × Name) → ℕ → StepAnswer → Tree → Type 0
IsAppliedAtWith t s res par id a t' = applies.IsAppliedAtWith One t s res par id a t'

abbrev pub IsAppliedWith : Tree → TreeStep → Option ℕ → Option (ℕ × Name) → StepAnswer → Tree → Type 0
IsAppliedWith t s res par a t' = applies.IsAppliedWith One t s res par a t'

abbrev pub IsRefusedWith : TreeData → TreeStep → Option ℕ → Option (ℕ × Name) → ApplyRefused → TreeData → Type 0
IsRefusedWith d s res par why d' = applies.IsRefusedWith One d s res par why d'

abbrev pub in_place : Tree → TreeStep → Option Cause → ℕ → Outcome
in_place t s why id = applies.in_place One t s why id

abbrev pub applied : Tree → TreeStep → ℕ → Outcome
applied t s id = applies.applied One t s id

abbrev pub IsBadChoice : Tree → TreeStep → Type 0
IsBadChoice t s = applies.IsBadChoice One t s

abbrev pub IsAppliedAt : Tree → TreeStep → ℕ → StepAnswer → Tree → Type 0
IsAppliedAt t s id a t' = applies.IsAppliedAt One t s id a t'

abbrev pub IsApplied : Tree → TreeStep → StepAnswer → Tree → Type 0
IsApplied t s a t' = applies.IsApplied One t s a t'

abbrev pub IsRefused : TreeData → TreeStep → ApplyRefused → TreeData → Type 0
IsRefused d s why d' = applies.IsRefused One d s why d'

-- Lists of steps.

abbrev pub Chain : Tree → List Placed → Tree → Type 0
Chain t list t' = explained.Chain One t list t'

abbrev pub Leads : Tree → List Placed → Type 0
Leads t list = checked.Leads One t list

abbrev pub Explains : TreeData → Trace → List Placed → Type 0
Explains base t list = explained.Explains One base t list

-- A fresh tree.

abbrev pub fresh_slots : ℕ
fresh_slots = fresh_trees.fresh_slots One

abbrev pub fresh_root : Node
fresh_root = fresh_trees.fresh_root One

abbrev pub fresh : ℕ → TreeData
fresh ninodes = fresh_trees.fresh One ninodes

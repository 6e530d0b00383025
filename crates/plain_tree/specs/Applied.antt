-- What `Tree::apply` does: the tree step, and an answer to every other step.
use Rattle.std.specs.Prelude.{◌≡◌, ℕ, ◌<◌, true, nat_lt, if◌then◌else◌, Option, Some, None}
use Rattle.image_versions.specs.declared.version.Version.{Version}
use Rattle.plain_tree.specs.declared.answer.Cause.{Cause}
use Rattle.plain_tree.specs.declared.answer.Cause.TheVariants.{BadDescriptor}
use Rattle.plain_tree.specs.declared.answer.Full.TheVariants.{Descriptors}
use Rattle.plain_tree.specs.declared.step.Action.{Action}
use Rattle.plain_tree.specs.declared.step.Action.TheVariants.{Dup}
use Rattle.plain_tree.specs.declared.step.TreeStep.{TreeStep}
use Rattle.plain_tree.specs.declared.step.StepAnswer.{StepAnswer}
use Rattle.plain_tree.specs.declared.step.StepAnswer.TheVariants.{Failed, Full as NoRoom}
use Rattle.plain_tree.specs.declared.refused.ApplyRefused.{ApplyRefused}
use Rattle.plain_tree.specs.declared.refused.ApplyRefused.TheVariants.{NoMemory, BadChoice}
use Rattle.plain_tree.specs.Steps.{refusal_with}
use Rattle.plain_tree.specs.Basics.{Name, TreeData, Tree, tree_of, resolve, parent, settle, path_of, refused, effect_with, answer_with, place_of, makes_node, opens_one, IsNewNode, IsLeastUnused, hart_count}

-- an answer, and the tree after it
pub record Outcome : Type 0 where
  pub answer : StepAnswer
  pub tree : Tree

-- A step out of its place changes nothing. Only dup is out of its place for want of a descriptor.
abbrev pub out_of_place : Action → StepAnswer
out_of_place (Dup fd) = NoRoom Descriptors
out_of_place s = Failed BadDescriptor

abbrev pub in_place_with : Version → Tree → TreeStep → Option ℕ → Option (ℕ × Name) → Option Cause → ℕ → Outcome
in_place_with v t s res par (Some k) id = record { answer = Failed k; tree = refused t s.hart s.action }
in_place_with v t s res par None id = record {
  answer = answer_with v t s.hart s.action res par id;
  tree = settle (effect_with v t s.hart s.action res par s.new id);
}

-- res: what the action's path was found to lead to; par: the directory before its last element, with that element;
-- id: of a new open file
abbrev pub applied_with : Version → Tree → TreeStep → Option ℕ → Option (ℕ × Name) → ℕ → Outcome
applied_with v t s res par id =
    if nat_lt s.hart hart_count
    then (if place_of t s.hart s.action then in_place_with v t s res par (refusal_with v t s.hart s.action res par) id
    else record { answer = out_of_place s.action; tree = t })
    else record { answer = Failed BadDescriptor; tree = t }

-- the step makes a node, and may not take the number that it gives
pub record IsBadChoiceWith (v : Version) (t : Tree) (s : TreeStep) (res : Option ℕ) (par : Option (ℕ × Name)) : Type 0 where
  pub hart : s.hart < hart_count
  pub not_refused : refusal_with v t s.hart s.action res par ≡ None
  pub makes : makes_node t s.action par ≡ true
  pub bad : IsNewNode t s.new → ⊥

-- What the code promises. With id for a new open file the step answers a and goes on to t', and the number of a new
-- node is right.
pub record IsAppliedAtWith (v : Version) (t : Tree) (s : TreeStep) (res : Option ℕ) (par : Option (ℕ × Name)) (id : ℕ) (a : StepAnswer)
    (t' : Tree) : Type 0 where
  pub is : applied_with v t s res par id ≡ record { answer = a; tree = t' }
  pub chosen : IsBadChoiceWith v t s res par → ⊥

-- the same, and a file that is opened takes the least unused id
pub record IsAppliedWith (v : Version) (t : Tree) (s : TreeStep) (res : Option ℕ) (par : Option (ℕ × Name)) (a : StepAnswer) (t' : Tree)
    : Type 0 where
  pub id : ℕ
  pub least : opens_one t s.hart s.action ≡ true → IsLeastUnused t id
  pub made : IsAppliedAtWith v t s res par id a t'

-- a step that was not made leaves the tree as it was
abbrev pub IsRefusedWith : Version → TreeData → TreeStep → Option ℕ → Option (ℕ × Name) → ApplyRefused → TreeData → Type 0
IsRefusedWith v d s res par NoMemory d' = d' ≡ d
IsRefusedWith v d s res par BadChoice d' = IsBadChoiceWith v (tree_of d) s res par × (d' ≡ d)

-- The same, by what the path leads to in the tree itself.

abbrev pub in_place : Version → Tree → TreeStep → Option Cause → ℕ → Outcome
in_place v t s why id = in_place_with v t s (resolve v t s.hart (path_of s.action)) (parent v t s.hart (path_of s.action)) why id

abbrev pub applied : Version → Tree → TreeStep → ℕ → Outcome
applied v t s id = applied_with v t s (resolve v t s.hart (path_of s.action)) (parent v t s.hart (path_of s.action)) id

abbrev pub IsBadChoice : Version → Tree → TreeStep → Type 0
IsBadChoice v t s = IsBadChoiceWith v t s (resolve v t s.hart (path_of s.action)) (parent v t s.hart (path_of s.action))

abbrev pub IsAppliedAt : Version → Tree → TreeStep → ℕ → StepAnswer → Tree → Type 0
IsAppliedAt v t s id a t' = IsAppliedAtWith v t s (resolve v t s.hart (path_of s.action)) (parent v t s.hart (path_of s.action)) id a t'

abbrev pub IsApplied : Version → Tree → TreeStep → StepAnswer → Tree → Type 0
IsApplied v t s a t' = IsAppliedWith v t s (resolve v t s.hart (path_of s.action)) (parent v t s.hart (path_of s.action)) a t'

abbrev pub IsRefused : Version → TreeData → TreeStep → ApplyRefused → TreeData → Type 0
IsRefused v d s why d' =
    IsRefusedWith v d s (resolve v (tree_of d) s.hart (path_of s.action)) (parent v (tree_of d) s.hart (path_of s.action)) why d'

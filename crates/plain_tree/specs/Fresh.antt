-- A fresh tree, and what a list of steps answers.
use Rattle.std.specs.Prelude.{ℕ, ◌-◌, List, [], ◌∷◌, length, Option, Some, None, replicate}
use Rattle.image_versions.specs.declared.version.Version.{Version}
use Rattle.image_versions.specs.Versions.{dirents_per_block_of}
use Rattle.plain_tree.specs.declared.node.Node.{Node}
use Rattle.plain_tree.specs.declared.node.NodeKind.TheVariants.{Directory}
use Rattle.plain_tree.specs.declared.step.TreeStep.{TreeStep}
use Rattle.plain_tree.specs.declared.step.StepAnswer.{StepAnswer}
use Rattle.plain_tree.specs.declared.tree.Hart.{Hart}
use Rattle.plain_tree.specs.Basics.{TreeData, Tree, dot, dotdot, root, hart_count, descriptor_count}
use Rattle.plain_tree.specs.Applied.{applied}

-- slots of a fresh root: one block of them
abbrev pub fresh_slots : Version → ℕ
fresh_slots v = dirents_per_block_of v

abbrev pub fresh_root : Version → Node
fresh_root v = record {
  count = 1;
  kind = Directory (Some (record { name = dot; number = root }) ∷ Some (record { name = dotdot; number = root })
      ∷ replicate (fresh_slots v - 2) None);
}

abbrev pub fresh_hart : Hart
fresh_hart = record { directory = root; descriptors = replicate descriptor_count None; hold = None }

-- these nodes, with nothing open and all harts in the root
abbrev pub at_rest : List (Option Node) → TreeData
at_rest nodes = record { ninodes = length nodes; nodes = nodes; files = []; harts = replicate hart_count fresh_hart }

-- a root without names, and room for these numbers of nodes
abbrev pub fresh : Version → ℕ → TreeData
fresh v ninodes = at_rest (None ∷ Some (fresh_root v) ∷ replicate (ninodes - 2) None)

-- a step, with the id of an open file that it makes
pub record Made : Type 0 where
  pub step : TreeStep
  pub id : ℕ

unfoldable pub answers : Version → Tree → List Made → List StepAnswer
answers v t [] = []
answers v t (m ∷ ms) = (applied v t m.step m.id).answer ∷ answers v (applied v t m.step m.id).tree ms

-- A step gives one answer at most, and a list of steps leads to one tree at most.
use Rattle.std.specs.Prelude.{◌≡◌, List}
use Rattle.image_versions.specs.declared.version.Version.{Version}
use Rattle.plain_tree.specs.declared.step.TreeStep.{TreeStep}
use Rattle.plain_tree.specs.declared.step.StepAnswer.{StepAnswer}
use Rattle.plain_tree.specs.declared.trace.Placed.{Placed}
use Rattle.plain_tree.specs.Basics.{Tree, Step}
use Rattle.plain_tree.specs.Explains.{Chain}

-- a step gives one answer and leads to one tree
abbrev pub StepsToOne : Type 0
StepsToOne = (v : Version) (t : Tree) (s : TreeStep) (a b : StepAnswer) (one two : Tree) → Step v t s a one → Step v t s b two
    → (a ≡ b) × (one ≡ two)

-- a list leads to one tree
abbrev pub ChainsToOne : Type 0
ChainsToOne = (v : Version) (t : Tree) (list : List Placed) (one two : Tree) → Chain v t list one → Chain v t list two → one ≡ two

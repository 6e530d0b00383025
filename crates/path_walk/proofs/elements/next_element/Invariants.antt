use Rattle.plain_tree.proofs.Vocabulary.{◌≡◌, ◌≤◌, ◌-◌, length, drop}
use Rattle.plain_tree.specs.Tree.{elements}
use Rattle.path_walk.proofs.elements.next_element.Given as goal

abbrev pub invariant-loop-at : goal.invariant-loop-at
invariant-loop-at l = (elements l.version (drop l.at l.path) ≡ elements l.version (drop l.from l.path)) × (l.at ≤ length l.path)

abbrev pub decreases-loop-at : goal.decreases-loop-at
decreases-loop-at l = length l.path - l.at

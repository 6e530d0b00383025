use Rattle.plain_tree.proofs.Lemmas.{◌≡◌, length, elements, parent, parent_from, tree_of}
use Rattle.plain_tree.proofs.tree.Tree.parent.Given as goal

abbrev pub invariant-loop-next : goal.invariant-loop-next
invariant-loop-next l = parent_from (tree_of l.self).nodes l.at l.name (elements l.version l.rest) ≡ parent l.version (tree_of l.self) l.hart l.path

abbrev pub decreases-loop-next : goal.decreases-loop-next
decreases-loop-next l = length l.rest

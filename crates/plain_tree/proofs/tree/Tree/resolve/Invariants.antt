use Rattle.plain_tree.proofs.Lemmas.{◌≡◌, length, elements, follow, resolve, tree_of}
use Rattle.plain_tree.proofs.tree.Tree.resolve.Given as goal

abbrev pub invariant-loop-name : goal.invariant-loop-name
invariant-loop-name l = follow (tree_of l.self).nodes l.at (elements l.version l.rest) ≡ resolve l.version (tree_of l.self) l.hart l.path

abbrev pub decreases-loop-name : goal.decreases-loop-name
decreases-loop-name l = length l.rest

use Rattle.plain_tree.proofs.Lemmas.{◌≡◌, length, tree_of, closed}
use Rattle.plain_tree.proofs.tree.Tree.close_orphans.Given as goal

abbrev pub invariant-loop-i : goal.invariant-loop-i
invariant-loop-i l = closed (tree_of l.self) ≡ closed (tree_of l.fn.self)

abbrev pub decreases-loop-i : goal.decreases-loop-i
decreases-loop-i l = length l.self.files

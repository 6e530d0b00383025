use Rattle.plain_tree.proofs.Lemmas.{◌≡◌, length, tree_of, settled_below}
use Rattle.plain_tree.proofs.tree.Tree.settle.Given as goal

abbrev pub invariant-loop-number : goal.invariant-loop-number
invariant-loop-number l = (tree_of l.self ≡ settled_below l.number (tree_of l.fn.self)) × (length l.self.nodes ≡ length l.fn.self.nodes)

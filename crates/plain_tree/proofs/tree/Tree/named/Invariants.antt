use Rattle.plain_tree.proofs.Lemmas.{◌≡◌, ℕ, ◌<◌, length, get_or, None, tree_of, part_at}
use Rattle.plain_tree.proofs.tree.Tree.named.Given as goal

abbrev pub invariant-loop-number : goal.invariant-loop-number
invariant-loop-number l = (length l.nodes.items ≡ l.number) × ((k : ℕ) → k < l.number → get_or l.nodes.items k None ≡ part_at (tree_of l.self) l.is_marked-items k)

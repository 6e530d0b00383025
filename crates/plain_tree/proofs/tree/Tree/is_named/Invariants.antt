use Rattle.plain_tree.proofs.Lemmas.{◌≡◌, false, ◌||◌, ◌==◌, tree_of, any_below, fd_names, hold_names, descriptor_count}
use Rattle.plain_tree.proofs.tree.Tree.is_named.Given as goal

abbrev pub invariant-loop-hart : goal.invariant-loop-hart
invariant-loop-hart l = any_below l.hart (λ h. ((tree_of l.self).cwd h == l.number) || (hold_names ((tree_of l.self).holds h) l.number || any_below descriptor_count (λ i. fd_names (tree_of l.self) ((tree_of l.self).fds h i) l.number))) ≡ false

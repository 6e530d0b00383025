use Rattle.plain_tree.proofs.Lemmas.{◌≡◌, false, tree_of, any_below, fd_names}
use Rattle.plain_tree.proofs.tree.Tree.is_open_by.Given as goal

abbrev pub invariant-loop-fd : goal.invariant-loop-fd
invariant-loop-fd l = any_below l.fd (λ i. fd_names (tree_of l.self) ((tree_of l.self).fds l.hart i) l.number) ≡ false

use Rattle.plain_tree.proofs.Lemmas.{◌≡◌, false, tree_of, any_below, is_id}
use Rattle.plain_tree.proofs.tree.Tree.has_descriptor_by.Given as goal

abbrev pub invariant-loop-fd : goal.invariant-loop-fd
invariant-loop-fd l = any_below l.fd (λ i. is_id ((tree_of l.self).fds l.hart i) l.id) ≡ false

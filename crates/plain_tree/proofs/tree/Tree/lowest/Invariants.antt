use Rattle.plain_tree.proofs.Lemmas.{◌≡◌, ◌-◌, tree_of, lowest, lowest_from, descriptor_count}
use Rattle.plain_tree.proofs.tree.Tree.lowest.Given as goal

abbrev pub invariant-loop-fd : goal.invariant-loop-fd
invariant-loop-fd l = lowest_from (descriptor_count - l.fd) l.fd ((tree_of l.self).fds l.hart) ≡ lowest ((tree_of l.self).fds l.hart)

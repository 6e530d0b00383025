use Rattle.plain_tree.proofs.Lemmas.{◌≡◌, false, tree_of, any_below, is_id, descriptor_count}
use Rattle.plain_tree.proofs.tree.Tree.has_descriptor.Given as goal

abbrev pub invariant-loop-hart : goal.invariant-loop-hart
invariant-loop-hart l = any_below l.hart (λ h. any_below descriptor_count (λ i. is_id ((tree_of l.self).fds h i) l.id)) ≡ false

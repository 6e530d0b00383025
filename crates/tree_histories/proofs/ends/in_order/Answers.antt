use Rattle.tree_histories.proofs.Lemmas.{rules, arith, Due, IsNonDecreasingBy-from_sort_by_key, in_order}
use Rattle.tree_histories.proofs.ends.in_order.Goals as goal

pub returns : goal.returns
returns c =
    in_order c.args.ends.now c.loop-id.id c.loop-id.order.items c.sort_by_key.new.self.items (omega arith) c.loop-id.invariant c.in_ok-sort_by_key.ensures.permutation
    (IsNonDecreasingBy-from_sort_by_key (λ (d : Due). d.limit) _ c.in_ok-sort_by_key.ensures.sorted (λ a r q k. search rules))

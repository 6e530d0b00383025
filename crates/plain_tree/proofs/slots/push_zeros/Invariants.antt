use Rattle.plain_tree.proofs.Lemmas.{◌≡◌, ◌++◌, replicate}
use Rattle.plain_tree.proofs.slots.push_zeros.Given as goal

abbrev pub invariant-loop : goal.invariant-loop
invariant-loop l = l.out.items ≡ l.fn.out.items ++ replicate l.counter 0

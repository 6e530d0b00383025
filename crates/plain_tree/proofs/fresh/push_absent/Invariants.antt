use Rattle.plain_tree.proofs.Lemmas.{◌≡◌, ◌++◌, replicate, None}
use Rattle.plain_tree.proofs.fresh.push_absent.Given as goal

abbrev pub invariant-loop : goal.invariant-loop
invariant-loop g l = l.places.items ≡ l.fn.places.items ++ replicate l.counter None

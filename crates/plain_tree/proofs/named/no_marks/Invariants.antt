use Rattle.plain_tree.proofs.Lemmas.{◌≡◌, false, replicate}
use Rattle.plain_tree.proofs.named.no_marks.Given as goal

abbrev pub invariant-loop : goal.invariant-loop
invariant-loop l = l.marks.items ≡ replicate l.counter false

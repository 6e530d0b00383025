use Rattle.plain_tree.proofs.Lemmas.{◌↔◌, drop, Rises}
use Rattle.plain_tree.proofs.belongs.rises.Given as goal

abbrev pub invariant-loop-entry : goal.invariant-loop-entry
invariant-loop-entry l = Rises l.lowest (drop l.entry-index l.list) ↔ Rises 0 l.list

use Rattle.plain_tree.proofs.Lemmas.{HasCome}
use Rattle.plain_tree.proofs.progress.progress_in.Given as goal

abbrev pub invariant-loop-placed : goal.invariant-loop-placed
invariant-loop-placed l = HasCome l.progress l.id l.list l.placed-index

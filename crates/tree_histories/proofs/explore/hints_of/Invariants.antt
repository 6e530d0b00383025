use Rattle.tree_histories.proofs.Lemmas.{◌≡◌, take, hints_of}
use Rattle.tree_histories.proofs.explore.hints_of.Given as goal

abbrev pub invariant-loop-place : goal.invariant-loop-place
invariant-loop-place l = l.hints.items ≡ hints_of (take l.place l.list)

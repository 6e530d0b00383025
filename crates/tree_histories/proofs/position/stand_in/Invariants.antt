use Rattle.tree_histories.proofs.Lemmas.{◌≡◌, ◌≤◌, take, acts_of, stand_of}
use Rattle.tree_histories.proofs.position.stand_in.Given as goal

abbrev pub invariant-loop-placed : goal.invariant-loop-placed
invariant-loop-placed l = record { is : l.stand ≡ stand_of (acts_of l.id (take l.placed-index l.list)); bound : l.stand.count ≤ l.placed-index }

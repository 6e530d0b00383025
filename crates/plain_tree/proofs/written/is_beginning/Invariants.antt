use Rattle.plain_tree.proofs.Lemmas.{[], take, Follows, acts_of, HasCome}
use Rattle.plain_tree.proofs.written.is_beginning.Given as goal

abbrev pub invariant-loop-placed : goal.invariant-loop-placed
invariant-loop-placed l = record {
  come : HasCome l.progress l.id l.list l.placed-index;
  follows : Follows l.call [] (acts_of l.id (take l.placed-index l.list));
}

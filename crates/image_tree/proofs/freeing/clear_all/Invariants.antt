use Rattle.image_tree.proofs.Lemmas.{ClearedTo}
use Rattle.image_tree.proofs.freeing.clear_all.Given as goal

abbrev pub invariant-loop-i : goal.invariant-loop-i
invariant-loop-i l = ClearedTo l.fn.bitmap l.bitmap l.numbers l.i

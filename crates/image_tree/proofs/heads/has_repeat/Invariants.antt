use Rattle.image_tree.proofs.Lemmas.{take, IsOnce}
use Rattle.image_tree.proofs.heads.has_repeat.Given as goal

abbrev pub invariant-loop-i : goal.invariant-loop-i
invariant-loop-i l = IsOnce (take l.i l.numbers)

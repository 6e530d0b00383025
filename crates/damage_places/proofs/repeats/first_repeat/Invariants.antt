use Rattle.image_tree.proofs.Lemmas.{take, IsOnce}
use Rattle.damage_places.proofs.repeats.first_repeat.Given as goal

abbrev pub invariant-loop-k : goal.invariant-loop-k
invariant-loop-k l = IsOnce (take l.k l.numbers)

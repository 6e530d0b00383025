use Rattle.image_tree.proofs.Lemmas.{◌≡◌, map, take, slot_of}
use Rattle.image_tree.proofs.trees.slots_in.Given as goal

abbrev pub invariant-loop-s : goal.invariant-loop-s
invariant-loop-s l = l.slots.items ≡ map slot_of (take l.s l.entries)

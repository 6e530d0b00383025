use Rattle.image_tree.proofs.Lemmas.{take, IsOnce, slot_names}
use Rattle.damage_places.proofs.names.name_fault.Given as goal

abbrev pub invariant-loop-s : goal.invariant-loop-s
invariant-loop-s l = IsOnce (slot_names (take l.s l.slots))

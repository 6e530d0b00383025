use Rattle.image_tree.proofs.Lemmas.{◌≡◌, take, map, slot_names}
use Rattle.image_tree.proofs.names.names_in.Given as goal

abbrev pub invariant-loop-s : goal.invariant-loop-s
invariant-loop-s l = map (λ n. n.now) l.names.items ≡ slot_names (take l.s l.slots)

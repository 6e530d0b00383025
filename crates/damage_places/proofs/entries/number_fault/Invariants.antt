use Rattle.image_tree.proofs.Lemmas.{◌≡◌, true, take, All, is_node, slot_numbers}
use Rattle.damage_places.proofs.entries.number_fault.Given as goal

abbrev pub invariant-loop-s : goal.invariant-loop-s
invariant-loop-s g l =
    (g.D.Device.contents l.device ≡ g.D.Device.contents l.fn.device) × (g.D.Device.failures l.device ≡ g.D.Device.failures l.fn.device)
    × All (λ n. is_node (g.D.Device.contents l.fn.device) n ≡ true) (slot_numbers (take l.s l.slots))

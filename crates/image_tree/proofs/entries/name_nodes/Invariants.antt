use Rattle.image_tree.proofs.Lemmas.{◌≡◌, take, get_or, true, false, All, slot_numbers}
use Rattle.image_tree.proofs.entries.name_nodes.Given as goal

abbrev pub invariant-loop-s : goal.invariant-loop-s
invariant-loop-s l = All (λ n. get_or l.nodes n false ≡ true) (slot_numbers (take l.s l.slots))

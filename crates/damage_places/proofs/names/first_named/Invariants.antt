use Rattle.image_tree.proofs.Lemmas.{◌≢◌, take, All, slot_names}
use Rattle.damage_places.proofs.names.first_named.Given as goal

abbrev pub invariant-loop-t : goal.invariant-loop-t
invariant-loop-t l = All (λ n. n ≢ l.name) (slot_names (take l.t l.slots))

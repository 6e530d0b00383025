use Rattle.image_tree.proofs.Lemmas.{◌++◌, ℕ, List, take, slot_numbers, Tallies}
use Rattle.damage_places.proofs.tallies.tally_slots.Given as goal

abbrev pub invariant-loop-s : goal.invariant-loop-s
invariant-loop-s l = (xs : List ℕ) → Tallies l.fn.table xs → Tallies l.table (xs ++ slot_numbers (take l.s l.slots))

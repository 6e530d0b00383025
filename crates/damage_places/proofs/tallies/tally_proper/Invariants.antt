use Rattle.image_tree.proofs.Lemmas.{◌++◌, ℕ, List, take, filter, eqb, get_or, slot_numbers, Tallies}
use Rattle.damage_places.proofs.tallies.tally_proper.Given as goal

abbrev pub invariant-loop-s : goal.invariant-loop-s
invariant-loop-s l = (xs : List ℕ) → Tallies l.fn.table xs → Tallies l.table (xs ++ filter (λ n. eqb (get_or l.ups n 0) l.d) (slot_numbers (take l.s l.slots)))
